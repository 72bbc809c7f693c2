-- Blocks that no change of a pair gives a smaller error.
use Rattle.std.specs.Prelude.{◌≡◌, ℕ, ◌<◌, ◌≤◌, List, Option, None, Some, IsTrue}
use Rattle.std.specs.Option.{IfSome}
use Rattle.astc_model.specs.Places.{Texel}
use Rattle.astc_model.specs.Weights.{Weighting}
use Rattle.astc_model.specs.Errors.{error}
use Rattle.astc_model.specs.Blocks.{Legal}
use Rattle.astc_model.specs.PairChanges.{Paired, NoPairUnder}
use Rattle.texel_error.specs.Goals.{GoalView}
use Rattle.listed_walk.specs.declared.best.Best.{Best}
use Rattle.listed_walk.specs.Looks.{IsSoundBest}
use Rattle.astc_model.specs.declared.flavour.Flavour.{Flavour}
use Rattle.astc_model.specs.declared.block.Coded.{Coded as CodedFields}
use Rattle.astc_model.specs.declared.block.Block.{Block}
use Rattle.astc_model.specs.declared.block.Block.TheVariants.{Coded}

-- no change of a pair gives the block a smaller error
abbrev pub NoPairIsBetter : (w h : ℕ) → Flavour → Weighting → List (Option Texel) → Block → Type 0
NoPairIsBetter w h flavour weights places block = NoPairUnder w h flavour weights places
    (error w h flavour weights block places) block

-- the second block is the first except for a pair, and has a smaller error
pub record IsBetterBlock (w h : ℕ) (flavour : Flavour) (weights : Weighting)
    (places : List (Option Texel)) (block changed : Block) : Type 0 where
  pub legal : Legal w h changed
  pub paired : Paired block changed
  pub less : error w h flavour weights changed places < error w h flavour weights block places

-- what a look at all pairs of a block finds: a block that is better, or that none is
abbrev pub FindsBetter : (w h : ℕ) → Flavour → Weighting → List (Option Texel) → Block
    → Option CodedFields → Type 0
FindsBetter w h flavour weights places block None = NoPairIsBetter w h flavour weights places block
FindsBetter w h flavour weights places block (Some changed) =
    IsBetterBlock w h flavour weights places block (Coded changed)

-- what a look at all pairs of the best block finds
abbrev pub FindsPair : (w h : ℕ) → GoalView → Option CodedFields → Option CodedFields → Type 0
FindsPair w h goal None changed = changed ≡ None
FindsPair w h goal (Some coded) changed = FindsBetter w h goal.flavour goal.weights goal.places
    (Coded coded) changed

-- the new best block is settled and no worse than the old one, and there is one exactly if there
-- was one
pub record StaysSettled (w h : ℕ) (goal : GoalView) (old new : Best) : Type 0 where
  pub sound : IsSoundBest w h goal new
  pub settled : IfSome new.block (λ coded. IsTrue new.settled)
  pub lower : new.error ≤ old.error
  pub none : old.block ≡ None → new ≡ old
  pub some : new.block ≡ None → old.block ≡ None
