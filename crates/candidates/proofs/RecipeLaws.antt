-- A recipe has a candidate exactly if it is legal.
use Rattle.std.proofs.Common.{◌≡◌, ℕ, Bool, true, false, ◌&&◌, if◌then◌else◌, List, Option, None, Some, Result, Ok, Err, refl, ◌∙◌}
use Rattle.std.specs.Option.{is_some, is_none, option_or}
use Rattle.std.specs.Result.{result_err}
use Rattle.astc_model.specs.Places.{Texel}
use Rattle.astc_model.specs.declared.level.Level.{Level}
use Rattle.astc_model.specs.declared.mode.Mode.{Mode}
use Rattle.astc_model.specs.declared.recipe.Recipe.{Recipe}
use Rattle.astc_model.specs.declared.block.BlockFault.{BlockFault}
use Rattle.astc_model.specs.Modes.{decoded_mode}
use Rattle.astc_model.specs.Shapes.{grid_fault, colour_shape}
use Rattle.astc_model.specs.Candidates.{cems_of, has_planes, level_on, recipe_level, candidate_at, candidate_under, candidate, is_legal_under, is_legal_recipe}

some_at : (w h : ℕ) (recipe : Recipe) (mode : Mode) (o : Option Level)
    (places : List (Option Texel)) → is_some (candidate_at w h recipe mode o places) ≡ is_some o
some_at w h recipe mode None places = refl
some_at w h recipe mode (Some level) places = refl

by_tests : (recipe : Recipe) (mode : Mode) (planes : Bool) (grid : Option BlockFault)
    (colours : Result Level BlockFault) → colour_shape mode recipe.parts 0 (cems_of recipe)
    ≡ colours
    → is_some (if planes then level_on recipe mode grid else None)
    ≡ (planes && is_none (option_or grid (result_err colours)))
by_tests recipe mode false grid colours e = refl
by_tests recipe mode true (Some fault) colours e = refl
by_tests recipe mode true None (Ok level) e = rw e refl
by_tests recipe mode true None (Err fault) e = rw e refl

some_under : (w h : ℕ) (recipe : Recipe) (o : Option Mode) (places : List (Option Texel))
    → is_some (candidate_under w h recipe o places) ≡ is_legal_under w h recipe o
unfolding recipe_level
some_under w h recipe None places = refl
some_under w h recipe (Some mode) places =
    some_at w h recipe mode (recipe_level w h recipe mode) places
    ∙ by_tests recipe mode (has_planes recipe mode) (grid_fault w h mode)
    (colour_shape mode recipe.parts 0 (cems_of recipe)) refl

pub candidate-is_some : (w h : ℕ) (recipe : Recipe) (places : List (Option Texel))
    → is_some (candidate w h recipe places) ≡ is_legal_recipe w h recipe
unfolding candidate is_legal_recipe
candidate-is_some w h recipe places = some_under w h recipe (decoded_mode recipe.mode) places
