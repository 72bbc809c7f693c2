-- The findings for each block of rows.
use Rattle.std.specs.Prelude.{◌≡◌, ◌<◌, ℕ, ◌==◌, if◌then◌else◌, List, [], Result, Ok, Err, ⊤, slice_index_or}
use Rattle.astc_model.specs.Places.{Texel}
use Rattle.astc_model.specs.FootprintNames.{sides_of}
use Rattle.encoder.specs.declared.verdict.Verdict.{Verdict}
use Rattle.encoder.specs.Verdicts.{IsVerdict}
use Rattle.astc_rows.specs.declared.arguments.Argument.{Argument}
use Rattle.astc_rows.specs.declared.arguments.Argument.TheVariants.{Blocks}
use Rattle.astc_rows.specs.declared.arguments.Rows.{Rows}
use Rattle.astc_rows.specs.declared.arguments.RowOptions.{RowOptions}
use Rattle.astc_rows.specs.declared.bands.CheckedRows.{CheckedRows}
use Rattle.astc_rows.specs.declared.bands.CheckedOptions.{CheckedOptions}
use Rattle.astc_rows.specs.declared.bands.CheckedCall.{CheckedCall}
use Rattle.astc_rows.specs.Bands.{block_count, checked_call, source_at}

-- each of the first n blocks is judged
pub record AreEachJudged (w h : ℕ) (band : CheckedRows) (way : CheckedOptions)
    (texels : List Texel) (n : ℕ)
    (blocks : List (List ℕ)) (judged : List Verdict) : Type 0 where
  pub each : (k : ℕ) (d : Verdict) → k < n → IsVerdict w h band.flavour way.weights way.preset
      (source_at w h band texels k) (slice_index_or blocks k []) (slice_index_or judged k d)

-- the same of all blocks of the rows
abbrev pub AllAreJudged : List Texel → List (List ℕ) → List Verdict → CheckedCall → ⊤ → Type 0
AllAreJudged texels blocks judged call done =
    AreEachJudged (sides_of call.band.name).0 (sides_of call.band.name).1 call.band call.way texels
    (block_count (sides_of call.band.name).0 call.band) blocks judged

-- the checked arguments of a call with this number of places for verdicts
abbrev pub judging_of : Rows → RowOptions → (texels blocks places : ℕ) → Result CheckedCall Argument
judging_of rows options texels blocks places =
    if places == blocks then checked_call rows options texels blocks else Err Blocks
