-- The goal of the search of one block: by what its error is measured.
use Rattle.std.specs.Prelude.{ℕ, List, Option}
use Rattle.astc_model.specs.Places.{Texel}
use Rattle.astc_model.specs.Weights.{Weighting}
use Rattle.astc_model.specs.Errors.{error}
use Rattle.astc_model.specs.declared.flavour.Flavour.{Flavour}
use Rattle.astc_model.specs.declared.block.Block.{Block}

-- the flavour, the channel weights, and the source that the block should show
pub record GoalView : Type 0 where
  pub flavour : Flavour
  pub weights : Weighting
  pub places : List (Option Texel)

-- the error of a block for the goal
abbrev pub error_to : (w h : ℕ) → GoalView → Block → ℕ
error_to w h goal block = error w h goal.flavour goal.weights block goal.places
