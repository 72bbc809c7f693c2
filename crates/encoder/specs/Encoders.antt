-- How the blocks of a picture are compressed.
use Rattle.std.specs.Prelude.{ℕ, List, Option}
use Rattle.astc_model.specs.Places.{Texel}
use Rattle.astc_model.specs.declared.block.Block.{Block}
use Rattle.texel_error.specs.Goals.{GoalView}
use Rattle.pair_descent.specs.Packed.{IsPackedAmong}
use Rattle.encoder.specs.declared.settings.Settings.{Settings}

-- what blocks for these places are judged by
abbrev pub goal_of : Settings → List (Option Texel) → GoalView
goal_of settings places = record {
  flavour = settings.flavour;
  weights = settings.weights;
  places = places;
}

-- the bytes are a block that is settled for these places by these settings, with this error, if
-- these blocks are proposed
abbrev pub IsEncoded : (w h : ℕ) → Settings → List (Option Texel) → List Block → List ℕ → ℕ → Type 0
IsEncoded w h settings places proposals bytes e =
    IsPackedAmong w h (goal_of settings places) settings.preset settings.fits proposals bytes e
