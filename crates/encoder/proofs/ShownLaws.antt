-- The error of 16 bytes is that of the block that a decoder shows of them.
use Rattle.std.proofs.Common.{◌≡◌, ℕ, List, Option, Result, Ok, Err, refl}
use Rattle.astc_model.specs.Places.{Texel}
use Rattle.astc_model.specs.Weights.{Weighting}
use Rattle.astc_model.specs.Reading.{read}
use Rattle.astc_model.specs.Errors.{error}
use Rattle.astc_model.specs.Shown.{shown, error_shown}
use Rattle.astc_model.specs.declared.flavour.Flavour.{Flavour}
use Rattle.astc_model.specs.declared.block.Block.{Block}
use Rattle.astc_model.specs.declared.block.BlockFault.{BlockFault}
use Rattle.encoder.specs.Shown.{block_read, shown_block}

module _ (w h : ℕ) (flavour : Flavour) (weights : Weighting) (bytes : List ℕ)
    (places : List (Option Texel)) where
  pub error-read : (r : Result Block BlockFault) → read w h bytes ≡ r
      → error_shown w h flavour weights bytes places
      ≡ error w h flavour weights (block_read r) places
  unfolding error_shown error shown
  error-read (Ok block) reads = rw reads refl
  error-read (Err fault) reads = rw reads refl

  pub error-shown : error_shown w h flavour weights bytes places
      ≡ error w h flavour weights (shown_block w h bytes) places
  unfolding shown_block
  error-shown = error-read (read w h bytes) refl
