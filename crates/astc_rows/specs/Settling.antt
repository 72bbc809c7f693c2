-- Blocks that are settled for the places of rows.
use Rattle.std.specs.Prelude.{◌≡◌, ◌≤◌, ◌<◌, ℕ, Bool, true, false, List, [], ◌∷◌, slice_index_or}
use Rattle.astc_model.specs.Sums.{sum_to}
use Rattle.astc_model.specs.Places.{Texel}
use Rattle.astc_model.specs.FootprintNames.{sides_of}
use Rattle.astc_model.specs.declared.block.Block.{Block}
use Rattle.encoder.specs.Encoders.{IsEncoded}
use Rattle.encoder.specs.Shown.{shown_block}
use Rattle.astc_rows.specs.declared.bands.CheckedRows.{CheckedRows}
use Rattle.astc_rows.specs.declared.bands.CheckedOptions.{CheckedOptions}
use Rattle.astc_rows.specs.declared.bands.CheckedCall.{CheckedCall}
use Rattle.astc_rows.specs.Bands.{block_count, settings_in, source_at, error_at}

-- The first n blocks are settled for their places, each with its own proposals, and this is the sum
-- of their errors.
pub record AreRowsSettled (w h : ℕ) (band : CheckedRows) (way : CheckedOptions)
    (texels : List Texel)
    (proposals : ℕ → List Block) (n : ℕ) (blocks : List (List ℕ)) (error : ℕ) : Type 0 where
  pub each : (k : ℕ) → k < n → IsEncoded w h (settings_in band way) (source_at w h band texels k)
      (proposals k) (slice_index_or blocks k [])
      (error_at w h band way.weights texels (slice_index_or blocks k []) k)
  pub sum : error ≡ sum_to
      (λ k. error_at w h band way.weights texels (slice_index_or blocks k []) k) n

-- the proposals for a place: the block that was there, if it is kept
abbrev pub proposals_of : (w h : ℕ) → Bool → List ℕ → List Block
proposals_of w h true bytes = shown_block w h bytes ∷ []
proposals_of w h false bytes = []

-- the proposals for place k of these blocks
abbrev pub proposals_at : (w h : ℕ) → Bool → List (List ℕ) → ℕ → List Block
proposals_at w h keeps blocks k = proposals_of w h keeps (slice_index_or blocks k [])

-- all blocks of the rows are settled for their places, as in a pack without advisers, or with
-- fitted blocks as proposals if the call requests them
abbrev pub AreEncoded : List Texel → List (List ℕ) → CheckedCall → ℕ → Type 0
AreEncoded texels blocks call error =
    AreRowsSettled (sides_of call.band.name).0 (sides_of call.band.name).1 call.band call.way texels
    (λ k. []) (block_count (sides_of call.band.name).0 call.band) blocks error

-- All blocks of the rows are settled for their places, with the block that was there as a proposal;
-- no block is further from its source than the block before.
pub record AreRowsPolished (texels : List Texel) (old blocks : List (List ℕ)) (call : CheckedCall)
    (error : ℕ) : Type 0 where
  pub settled : AreRowsSettled (sides_of call.band.name).0 (sides_of call.band.name).1 call.band
      call.way texels (λ k. shown_block (sides_of call.band.name).0 (sides_of call.band.name).1
      (slice_index_or old k []) ∷ []) (block_count (sides_of call.band.name).0 call.band) blocks
      error
  pub never_worse : (k : ℕ) → k < block_count (sides_of call.band.name).0 call.band
      → error_at (sides_of call.band.name).0 (sides_of call.band.name).1 call.band call.way.weights
      texels (slice_index_or blocks k []) k
      ≤ error_at (sides_of call.band.name).0 (sides_of call.band.name).1 call.band call.way.weights
      texels (slice_index_or old k []) k
