-- The best block for a source, among those that a preset lists and those that are proposed.
use Rattle.std.specs.Prelude.{◌≡◌, ℕ, ◌≤◌, Bool, true, false, List, [], ◌++◌, length, Option, None, Some, IsTrue}
use Rattle.std.specs.Option.{IfSome}
use Rattle.astc_model.specs.Limits.{most_block_error}
use Rattle.astc_model.specs.Settled.{NoneUnder, NoneUnderMean, listed, mean_block}
use Rattle.astc_model.specs.declared.preset.Preset.{Preset}
use Rattle.astc_model.specs.declared.block.Coded.{Coded as CodedFields}
use Rattle.astc_model.specs.declared.block.Block.{Block}
use Rattle.astc_model.specs.declared.block.Block.TheVariants.{Coded}
use Rattle.texel_error.specs.Goals.{GoalView, error_to}
use Rattle.listed_walk.specs.declared.best.Best.{Best}
use Rattle.listed_walk.specs.Looks.{IsSoundBest}
use Rattle.descent.specs.Proposals.{NoProposalUnder, nothing_under}

-- the block itself, or the mean constant if there is none
abbrev pub best_block : GoalView → Option CodedFields → Block
best_block goal None = mean_block goal.places
best_block goal (Some coded) = Coded coded

-- no listed block and no proposal has a smaller error; if there is no block, the error is the mean
-- constant's; there is none if nothing is under it
pub record IsBestFor (w h : ℕ) (goal : GoalView) (preset : Preset) (proposals : List Block)
    (best : Best) : Type 0 where
  pub sound : IsSoundBest w h goal best
  pub small : best.error ≤ most_block_error
  pub none_listed : NoneUnder w h goal.flavour goal.weights goal.places best.error
      (listed w h preset goal.places)
  pub none_proposed : NoneUnder w h goal.flavour goal.weights goal.places best.error proposals
  pub mean : best.block ≡ None → best.error ≡ error_to w h goal (mean_block goal.places)
  pub tie : NoneUnderMean w h goal.flavour goal.weights preset goal.places proposals → best.block
      ≡ None

-- and no change of one of its integers is better
pub record IsSettledBest (w h : ℕ) (goal : GoalView) (preset : Preset) (proposals : List Block)
    (best : Best) : Type 0 where
  pub best_for : IsBestFor w h goal preset proposals best
  pub settled : IfSome best.block (λ coded. IsTrue best.settled)

-- The start of a search, if fitted blocks count as proposals, or if they do not: a block under the
-- limit, or nothing. Without fits it is nothing if no proposal is under the limit.
pub record BeginsAt (w h : ℕ) (goal : GoalView) (fits : Bool) (proposals : List Block) (limit : ℕ)
    (best : Best) : Type 0 where
  pub lower : best.error ≤ limit
  pub none_yet : best.block ≡ None → best ≡ nothing_under limit
  pub under : fits ≡ true → limit ≤ best.error → best ≡ nothing_under limit
  pub kept : fits ≡ false → NoProposalUnder w h goal proposals (length proposals) limit → best
      ≡ nothing_under limit

-- the best block if these blocks are proposed, and fitted ones too if they count as proposals
pub record IsBestAmong (w h : ℕ) (goal : GoalView) (preset : Preset) (fits : Bool)
    (proposals : List Block) (best : Best) : Type 0 where
  pub fitted : List Block
  pub plain : fits ≡ false → fitted ≡ []
  pub best_for : IsBestFor w h goal preset (fitted ++ proposals) best

-- and no change of one of its integers is better
pub record IsSettledAmong (w h : ℕ) (goal : GoalView) (preset : Preset) (fits : Bool)
    (proposals : List Block) (best : Best) : Type 0 where
  pub fitted : List Block
  pub plain : fits ≡ false → fitted ≡ []
  pub settled : IsSettledBest w h goal preset (fitted ++ proposals) best
