-- Packed blocks if fitted ones may count as proposals.
use Rattle.std.specs.Prelude.{◌≡◌, ℕ, Bool, false, List, [], ◌++◌}
use Rattle.astc_model.specs.PairChanges.{IsPackedBlock}
use Rattle.astc_model.specs.declared.preset.Preset.{Preset}
use Rattle.astc_model.specs.declared.block.Block.{Block}
use Rattle.texel_error.specs.Goals.{GoalView}

-- the bytes are a packed block if these blocks are proposed, and fitted ones too if they count as
-- proposals
pub record IsPackedAmong (w h : ℕ) (goal : GoalView) (preset : Preset) (fits : Bool)
    (proposals : List Block) (bytes : List ℕ) (e : ℕ) : Type 0 where
  pub fitted : List Block
  pub plain : fits ≡ false → fitted ≡ []
  pub packed : IsPackedBlock w h goal.flavour goal.weights preset goal.places
      (fitted ++ proposals) bytes e
