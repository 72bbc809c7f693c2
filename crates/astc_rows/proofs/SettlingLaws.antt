-- Blocks settled one after another.
use Rattle.std.proofs.Common.{◌≡◌, ℕ, ◌+◌, ◌<◌, ◌≤◌, List, [], ◌∷◌, true, length, Option, Ok, sym, ◌∙◌, ap, subst, arith, inl, inr}
use Rattle.std.specs.Prelude.{slice_set, slice_index_or}
use Rattle.std.proofs.lemmas.Bool.{cases_lt}
use Rattle.std.proofs.lemmas.List.{get_or-set_same, get_or-set_other}
use Rattle.astc_model.specs.Sums.{sum_to}
use Rattle.astc_model.specs.Places.{Texel}
use Rattle.astc_model.specs.FootprintNames.{sides_of}
use Rattle.astc_model.specs.Shown.{error_shown}
use Rattle.astc_model.specs.declared.block.Block.{Block}
use Rattle.astc_model.proofs.SumLaws.{sum_to-zero, sum_to-more, sum_to-same}
use Rattle.encoder.specs.declared.settings.Settings.{Settings}
use Rattle.encoder.specs.Encoders.{IsEncoded}
use Rattle.encoder.specs.Shown.{shown_block}
use Rattle.encoder.proofs.EncodedLaws.{none-proposed}
use Rattle.encoder.proofs.ShownLaws.{error-read, error-shown}
use Rattle.astc_rows.specs.declared.bands.CheckedRows.{CheckedRows}
use Rattle.astc_rows.specs.declared.bands.CheckedOptions.{CheckedOptions}
use Rattle.astc_rows.specs.declared.bands.CheckedCall.{CheckedCall}
use Rattle.astc_rows.specs.Bands.{block_count, settings_in, source_at, error_at}
use Rattle.astc_rows.specs.Settling.{AreRowsSettled, AreRowsPolished, proposals_at}

module _ (w h : ℕ) (settings : Settings) (places : List (Option Texel)) where
  -- the error of a settled block is that of its bytes
  pub error-exact : (proposals : List Block) (bytes : List ℕ) (e : ℕ)
      → IsEncoded w h settings places proposals bytes e → e
      ≡ error_shown w h settings.flavour settings.weights bytes places
  error-exact proposals bytes e is =
      let settled = is.packed.settled in
      settled.settled.exact ∙ sym (error-read w h settings.flavour settings.weights bytes places
      (Ok settled.block) settled.reads)

  -- a settled block is no further from its source than the texels shown for a proposal
  pub never_worse : (old bytes : List ℕ) (e : ℕ) → IsEncoded w h settings places
      (shown_block w h old ∷ []) bytes e
      → e ≤ error_shown w h settings.flavour settings.weights old places
  never_worse old bytes e is =
      rw (error-shown w h settings.flavour settings.weights old places)
      (none-proposed w h settings places (shown_block w h old ∷ []) bytes e is).0

module _ (w h : ℕ) (band : CheckedRows) (way : CheckedOptions) (texels : List Texel)
    (proposals : ℕ → List Block) where
  pub settled-none : (blocks : List (List ℕ))
      → AreRowsSettled w h band way texels proposals 0 blocks 0
  settled-none blocks = record { each = λ k below. absurd (omega arith); sum = sym (sum_to-zero _) }

  abbrev Packed : ℕ → List ℕ → ℕ → Type 0
  Packed k bytes e = IsEncoded w h (settings_in band way) (source_at w h band texels k)
      (proposals k) bytes e

  -- one block more
  pub settled-more : (n : ℕ) (blocks : List (List ℕ)) (total : ℕ) (bytes : List ℕ) (e : ℕ)
      → AreRowsSettled w h band way texels proposals n blocks total → n < length blocks
      → Packed n bytes e → AreRowsSettled w h band way texels proposals (n + 1)
      (slice_set blocks n bytes) (total + e)
  settled-more n blocks total bytes e so_far within packed =
      let here : slice_index_or (slice_set blocks n bytes) n [] ≡ bytes =
      get_or-set_same blocks n bytes [] within in
      let exact : e ≡ error_at w h band way.weights texels bytes n =
      error-exact w h (settings_in band way) (source_at w h band texels n)
      (proposals n) bytes e packed in
      let before : (k : ℕ) → k < n → slice_index_or (slice_set blocks n bytes) k []
      ≡ slice_index_or blocks k [] = λ k less. get_or-set_other blocks n k bytes []
      (λ same. omega (arith, same, less)) in
      let f : ℕ → ℕ = λ k. error_at w h band way.weights texels (slice_index_or blocks k []) k in
      let g : ℕ → ℕ = λ k. error_at w h band way.weights texels
      (slice_index_or (slice_set blocks n bytes) k []) k in
      let last : e ≡ g n = exact ∙ ap (λ b. error_at w h band way.weights texels b n) (sym here) in
      let now : Packed n (slice_index_or (slice_set blocks n bytes) n []) (g n) =
      subst (λ b. Packed n b (g n)) (sym here) (subst (Packed n bytes) last packed) in
      record {
        each = λ k below. elim (cases_lt k n) [
          | inl less ↦ subst (λ b. Packed k b (error_at w h band way.weights texels b k))
              (sym (before k less)) (so_far.each k less)
          | inr more ↦ let same : k ≡ n = omega arith in rw same now
        ];
        sum = ap (λ t. t + e) so_far.sum
            ∙ ap (λ t. t + e) (sum_to-same f g n
            (λ k less. ap (λ b. error_at w h band way.weights texels b k)
            (sym (before k less))))
            ∙ ap (λ t. sum_to g n + t) last ∙ sym (sum_to-more g n);
      }

-- the blocks of a call that keeps the given blocks as proposals
pub polished : (texels : List Texel) (old blocks : List (List ℕ)) (call : CheckedCall) (total : ℕ)
    → AreRowsSettled (sides_of call.band.name).0 (sides_of call.band.name).1 call.band call.way
    texels (proposals_at (sides_of call.band.name).0 (sides_of call.band.name).1 true old)
    (block_count (sides_of call.band.name).0 call.band) blocks total
    → AreRowsPolished texels old blocks call total
polished texels old blocks call total are =
    let w = (sides_of call.band.name).0 in
    let h = (sides_of call.band.name).1 in
    record {
      settled = are;
      never_worse = λ k below. never_worse w h (settings_in call.band call.way)
          (source_at w h call.band texels k) (slice_index_or old k [])
          (slice_index_or blocks k []) _ (are.each k below);
    }
