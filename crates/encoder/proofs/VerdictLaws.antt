-- Verdicts from the findings for a block.
use Rattle.std.proofs.Common.{◌≡◌, ℕ, ◌<◌, ◌≤◌, Bool, false, ◌↔◌, List, [], ◌∷◌, Option, Ok, Err, refl, sym, ◌∙◌, subst, arith}
use Rattle.std.proofs.lemmas.Bool.{leb-true}
use Rattle.std.specs.Prelude.{nat_le, IsTrue, IsOk, IsOkAnd}
use Rattle.astc_model.specs.Places.{Texel}
use Rattle.astc_model.specs.Weights.{Weighting}
use Rattle.astc_model.specs.Blocks.{constant_of}
use Rattle.astc_model.specs.Reading.{read}
use Rattle.astc_model.specs.Errors.{error}
use Rattle.astc_model.specs.Changes.{Changed}
use Rattle.astc_model.specs.Settled.{NoneUnder, listed, mean_block}
use Rattle.astc_model.specs.Shown.{error_shown}
use Rattle.astc_model.specs.declared.flavour.Flavour.{Flavour}
use Rattle.astc_model.specs.declared.preset.Preset.{Preset}
use Rattle.astc_model.specs.declared.block.Block.{Block}
use Rattle.astc_model.specs.declared.block.BlockFault.{BlockFault}
use Rattle.candidates.specs.Walks.{NoCandidateUnder}
use Rattle.descent.specs.Least.{NoChangeIsBetter}
use Rattle.encoder.specs.declared.verdict.Verdict.{Verdict}
use Rattle.encoder.specs.Verdicts.{IsVerdict}
use Rattle.encoder.proofs.ShownLaws.{error-read}

-- the mean constant and the candidates are the listed blocks
module _ (w h : ℕ) (flavour : Flavour) (weights : Weighting) (preset : Preset)
    (places : List (Option Texel)) (e mean : ℕ)
    (at_mean : mean ≡ error w h flavour weights (mean_block places) places) where
  pub listed-then : (rest : Bool) → e ≤ mean
      → IsTrue rest ↔ NoCandidateUnder w h flavour weights preset places e
      → IsTrue rest ↔ NoneUnder w h flavour weights places e (listed w h preset places)
  unfolding listed
  listed-then rest most candidates =
      (λ test. (omega (arith, most, at_mean), candidates.0 test), λ none. candidates.1 none.1)

  pub listed-else : mean < e → IsTrue (nat_le e mean) ↔ NoneUnder w h flavour weights places e
      (listed w h preset places)
  unfolding listed
  listed-else less = (
    λ yes. absurd (omega (arith, less, leb-true e mean yes)),
    λ none.
        absurd (omega (arith, less, at_mean, none.0)),
  )

module _ (w h : ℕ) (flavour : Flavour) (weights : Weighting) (preset : Preset)
    (places : List (Option Texel)) (bytes : List ℕ) where
  abbrev e : ℕ
  e = error_shown w h flavour weights bytes places

  pub verdict-read : (block : Block) (verdict : Verdict) → read w h bytes ≡ Ok block
      → IsTrue verdict.legal → verdict.error ≡ error w h flavour weights block places
      → IsTrue verdict.candidates_met ↔ NoneUnder w h flavour weights places
      (error w h flavour weights block places) (listed w h preset places)
      → IsTrue verdict.least ↔ NoChangeIsBetter w h flavour weights places block
      → IsVerdict w h flavour weights preset places bytes verdict
  verdict-read block verdict reads legal error_is met least =
      let same : e ≡ error w h flavour weights block places =
      error-read w h flavour weights bytes places (Ok block) reads in
      let none : IsTrue verdict.candidates_met ↔ NoneUnder w h flavour weights places e
      (listed w h preset places) =
      subst (λ n. IsTrue verdict.candidates_met ↔ NoneUnder w h flavour weights places n
      (listed w h preset places)) (sym same) met in
      let unchanged : IsTrue verdict.least ↔ ((changed : Block) → Changed block changed
      → e ≤ error w h flavour weights changed places) =
      subst (λ n. IsTrue verdict.least ↔ ((changed : Block) → Changed block changed
      → n ≤ error w h flavour weights changed places)) (sym same) least in
      record {
        legal = subst (λ r. IsTrue verdict.legal ↔ IsOk r) (sym reads) (λ yes. refl, λ yes. legal);
        error = error_is ∙ sym same;
        candidates_met = subst (λ r. IsTrue verdict.candidates_met ↔ IsOkAnd r
            (λ block. NoneUnder w h flavour weights places e (listed w h preset places)))
            (sym reads) none;
        least = subst (λ r. IsTrue verdict.least ↔ IsOkAnd r (λ block. (changed : Block)
            → Changed block changed → e ≤ error w h flavour weights changed places))
            (sym reads) unchanged;
      }

  pub verdict-fault : (fault : BlockFault) (n : ℕ) → read w h bytes ≡ Err fault → n
      ≡ error w h flavour weights (constant_of (65535 ∷ 0 ∷ 65535 ∷ 65535 ∷ [])) places
      → IsVerdict w h flavour weights preset places bytes
      (record { legal = false; error = n; candidates_met = false; least = false })
  verdict-fault fault n reads error_is = record {
    legal = subst (λ r. IsTrue false ↔ IsOk r) (sym reads) (λ no. absurd (cc), λ no. absurd (cc));
    error = error_is ∙ sym (error-read w h flavour weights bytes places (Err fault) reads);
    candidates_met = subst (λ r.
        IsTrue false ↔ IsOkAnd r (λ block. NoneUnder w h flavour weights places e
        (listed w h preset places))) (sym reads) (λ no. absurd (cc), λ no. absurd no);
    least = subst (λ r. IsTrue false ↔ IsOkAnd r (λ block. (changed : Block) → Changed block changed
        → e ≤ error w h flavour weights changed places)) (sym reads)
        (λ no. absurd (cc), λ no. absurd no);
  }
