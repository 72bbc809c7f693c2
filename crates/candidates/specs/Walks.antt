-- Results of walks over the candidates of a preset: whether one has an error under a limit.
use Rattle.std.specs.Prelude.{ℕ, ◌≤◌, ◌<◌, List, Option}
use Rattle.std.specs.Option.{IfSome}
use Rattle.std.specs.List.{All, filter_map}
use Rattle.astc_model.specs.Places.{Texel}
use Rattle.astc_model.specs.Weights.{Weighting}
use Rattle.astc_model.specs.declared.flavour.Flavour.{Flavour}
use Rattle.astc_model.specs.declared.preset.Preset.{Preset}
use Rattle.astc_model.specs.declared.recipe.Recipe.{Recipe}
use Rattle.astc_model.specs.Recipes.{with_mode, recipes}
use Rattle.astc_model.specs.Candidates.{candidate}
use Rattle.astc_model.specs.Errors.{error}
use Rattle.astc_model.specs.Settled.{NoneUnder}
use Rattle.recipes.specs.Shapes.{shapes}

-- the candidate of a recipe, if there is one, has no error under the limit
unfoldable pub IsOver : ℕ → ℕ → Flavour → Weighting → List (Option Texel) → ℕ → Recipe → Type 0
IsOver w h flavour weights places limit recipe = IfSome (candidate w h recipe places)
    (λ block. limit ≤ error w h flavour weights block places)

-- no candidate that a shape of the preset gives with any block mode has an error under the limit
abbrev pub NoneOfWalkUnder : ℕ → ℕ → Flavour → Weighting → Preset → List (Option Texel) → ℕ → Type 0
NoneOfWalkUnder w h flavour weights preset places limit =
    (mode : ℕ) → mode < 2048
    → All (λ shape. IsOver w h flavour weights places limit (with_mode mode shape))
    (shapes preset)

-- no candidate that the preset lists has an error under the limit
abbrev pub NoCandidateUnder : ℕ → ℕ → Flavour → Weighting → Preset → List (Option Texel) → ℕ
    → Type 0
NoCandidateUnder w h flavour weights preset places limit =
    NoneUnder w h flavour weights places limit (filter_map (λ recipe. candidate w h recipe places)
    (recipes preset))
