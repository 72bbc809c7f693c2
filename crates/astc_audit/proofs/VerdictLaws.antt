-- Which verdicts say that a block is settled.
use Rattle.std.proofs.Common.{◌≡◌, ℕ, ◌≤◌, not, ◌&&◌, List, Option, Result, Ok, Err, refl}
use mir.Val.{bool_byte}
use Rattle.std.specs.Prelude.{IsOk, IsOkAnd}
use Rattle.astc_model.specs.Places.{Texel}
use Rattle.astc_model.specs.Weights.{Weighting}
use Rattle.astc_model.specs.Reading.{read}
use Rattle.astc_model.specs.Errors.{error}
use Rattle.astc_model.specs.Changes.{Changed}
use Rattle.astc_model.specs.Settled.{NoneUnder, Settled, listed}
use Rattle.astc_model.specs.Shown.{error_shown}
use Rattle.astc_model.specs.declared.flavour.Flavour.{Flavour}
use Rattle.astc_model.specs.declared.preset.Preset.{Preset}
use Rattle.astc_model.specs.declared.block.Block.{Block}
use Rattle.astc_model.specs.declared.block.BlockFault.{BlockFault}
use Rattle.encoder.specs.declared.verdict.Verdict.{Verdict}
use Rattle.astc_audit.specs.Counts.{CountsOne}
use Rattle.encoder.specs.Verdicts.{IsVerdict}
use Rattle.astc_audit.specs.Verdicts.{IsGood}
use Rattle.block_reader.proofs.ReadingLaws.{read-legal}
use Rattle.encoder.proofs.ShownLaws.{error-read}
use Rattle.astc_audit.proofs.CountLaws.{counts-one}

module _ (w h : ℕ) (flavour : Flavour) (weights : Weighting) (preset : Preset)
    (places : List (Option Texel)) (bytes : List ℕ) where
  abbrev e : ℕ
  e = error_shown w h flavour weights bytes places

  -- all three truths are so exactly if the bytes are a settled block
  settled : (r : Result Block BlockFault) → read w h bytes ≡ r
      → IsOkAnd r (λ block. NoneUnder w h flavour weights places e (listed w h preset places))
      → IsOkAnd r (λ block. (changed : Block) → Changed block changed
      → e ≤ error w h flavour weights changed places)
      → IsOkAnd r (λ block. Settled w h flavour weights preset places block e)
  settled (Ok block) reads met least =
      record {
        legal = read-legal w h bytes block reads;
        exact = error-read w h flavour weights bytes places
            (Ok block) reads;
        none_listed = met;
        no_change = least;
      }
  settled (Err fault) reads met least = absurd met

  is-ok : (r : Result Block BlockFault)
      → IsOkAnd r (λ block. Settled w h flavour weights preset places block e) → IsOk r
  is-ok (Ok block) is = refl
  is-ok (Err fault) is = absurd is

  is-met : (r : Result Block BlockFault)
      → IsOkAnd r (λ block. Settled w h flavour weights preset places block e)
      → IsOkAnd r (λ block. NoneUnder w h flavour weights places e (listed w h preset places))
  is-met (Ok block) is = is.none_listed
  is-met (Err fault) is = absurd is

  is-least : (r : Result Block BlockFault)
      → IsOkAnd r (λ block. Settled w h flavour weights preset places block e)
      → IsOkAnd r (λ block. (changed : Block) → Changed block changed
      → e ≤ error w h flavour weights changed places)
  is-least (Ok block) is = is.no_change
  is-least (Err fault) is = absurd is

  pub counted : (verdict : Verdict) (n : ℕ)
      → IsVerdict w h flavour weights preset places bytes verdict
      → n ≡ bool_byte (not (verdict.legal && (verdict.candidates_met && verdict.least)))
      → CountsOne (IsGood w h flavour weights preset places bytes) n
  unfolding IsGood
  counted verdict n is counts =
      counts-one _ verdict.legal verdict.candidates_met verdict.least n
      (λ legal_is met least. settled (read w h bytes) refl (is.candidates_met.0 met)
      (is.least.0 least))
      (λ all. is.legal.1 (is-ok (read w h bytes) all))
      (λ all. is.candidates_met.1 (is-met (read w h bytes) all))
      (λ all. is.least.1 (is-least (read w h bytes) all)) counts
