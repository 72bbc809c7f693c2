-- Blocks that no change of one integer gives a smaller error, and what it takes to find that out.
use Rattle.std.specs.Prelude.{ℕ, ◌+◌, ◌-◌, ◌*◌, ◌<◌, ◌≤◌, List, Option}
use Rattle.astc_model.specs.Sums.{sum_to}
use Rattle.astc_model.specs.Places.{Texel}
use Rattle.astc_model.specs.Weights.{Weighting}
use Rattle.astc_model.specs.Errors.{error}
use Rattle.astc_model.specs.Changes.{Changed}
use Rattle.astc_model.specs.declared.flavour.Flavour.{Flavour}
use Rattle.astc_model.specs.declared.block.Coded.{Coded as CodedFields}
use Rattle.astc_model.specs.declared.block.Block.{Block}
use Rattle.astc_model.specs.declared.block.Block.TheVariants.{Constant, Coded}
use Rattle.error_tables.specs.State.{StateView}
use Rattle.error_state.specs.Scans.{integers_of, range_of, reach_count, NoBetter}
use Rattle.error_state.specs.declared.kinds.CodedKind.{CodedKind}
use Rattle.error_state.specs.declared.kinds.CodedKind.TheVariants.{Colour, Weight}

-- no change of one integer gives the block a smaller error
abbrev pub NoChangeIsBetter : (w h : ℕ) → Flavour → Weighting → List (Option Texel) → Block → Type 0
NoChangeIsBetter w h flavour weights places block =
    (changed : Block) → Changed block changed
    → error w h flavour weights block places ≤ error w h flavour weights changed places

-- no other value of an integer of this kind gives a smaller error
abbrev pub NoneBetter : (w h : ℕ) → StateView → CodedKind → Type 0
NoneBetter w h state kind = (i : ℕ) → i < integers_of state kind → NoBetter w h state kind i

-- over all changes of the first n integers of a kind to another value, the inside texels that each
-- can alter
abbrev pub texels_of : (w h : ℕ) → StateView → CodedKind → ℕ → ℕ
texels_of w h state kind n = sum_to (λ i. (range_of state kind - 1) * reach_count w h state kind i)
    n

-- a coded block and what its error is judged by
abbrev pub view_of : Flavour → Weighting → List (Option Texel) → CodedFields → StateView
view_of flavour weights places coded = record {
  flavour = flavour;
  weights = weights;
  block = coded;
  places = places;
}

-- over all changes of one integer of a coded block, the inside texels that each can alter; none of
-- a constant block
abbrev pub texels_of_changes : (w h : ℕ) → Flavour → Weighting → List (Option Texel) → Block → ℕ
texels_of_changes w h flavour weights places (Constant constant) = 0
texels_of_changes w h flavour weights places (Coded coded) =
    let state : StateView = view_of flavour weights places coded in
    texels_of w h state Colour (integers_of state Colour) + texels_of w h state Weight
    (integers_of state Weight)
