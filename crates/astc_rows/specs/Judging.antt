-- The findings for the blocks of rows.
use Rattle.std.specs.Prelude.{◌≡◌, ◌<◌, ℕ, ◌&&◌, if◌then◌else◌, List, [], length, sum_by, slice_index_or}
use Rattle.astc_model.specs.Sums.{sum_to}
use Rattle.astc_model.specs.Places.{Texel}
use Rattle.astc_model.specs.FootprintNames.{sides_of}
use Rattle.encoder.specs.declared.verdict.Verdict.{Verdict}
use Rattle.encoder.specs.Verdicts.{IsVerdict}
use Rattle.astc_rows.specs.declared.judging.RowFindings.{RowFindings}
use Rattle.astc_rows.specs.declared.bands.CheckedRows.{CheckedRows}
use Rattle.astc_rows.specs.declared.bands.CheckedOptions.{CheckedOptions}
use Rattle.astc_rows.specs.declared.bands.CheckedCall.{CheckedCall}
use Rattle.astc_rows.specs.Bands.{block_count, source_at, error_at}

-- 1 for a verdict one of whose three truths is not so
abbrev pub bad_in : Verdict → ℕ
bad_in verdict = if verdict.legal && (verdict.candidates_met && verdict.least) then 0 else 1

-- There is a verdict on each of the first n blocks; these are the sum of their errors, and how many
-- of them are bad.
pub record AreRowsJudged (w h : ℕ) (band : CheckedRows) (way : CheckedOptions)
    (texels : List Texel) (n : ℕ)
    (blocks : List (List ℕ)) (findings : RowFindings) : Type 0 where
  pub verdicts : List Verdict
  pub count : length verdicts ≡ n
  pub each : (k : ℕ) (d : Verdict) → k < n → IsVerdict w h band.flavour way.weights way.preset
      (source_at w h band texels k) (slice_index_or blocks k []) (slice_index_or verdicts k d)
  pub error : findings.error
      ≡ sum_to (λ k. error_at w h band way.weights texels (slice_index_or blocks k []) k) n
  pub bad : findings.bad ≡ sum_by bad_in verdicts

-- the same of all blocks of the rows
abbrev pub AreAudited : List Texel → List (List ℕ) → CheckedCall → RowFindings → Type 0
AreAudited texels blocks call findings =
    AreRowsJudged (sides_of call.band.name).0 (sides_of call.band.name).1 call.band call.way texels
    (block_count (sides_of call.band.name).0 call.band) blocks findings
