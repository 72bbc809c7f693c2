-- The shapes of a preset: recipes without their block modes.
use Rattle.std.specs.Prelude.{◌≡◌, ◌≤◌, ◌<◌, List, map, IsTrue}
use Rattle.std.specs.List.{range_with_len, flat_map}
use Rattle.astc_model.specs.declared.recipe.Recipe.{Recipe}
use Rattle.astc_model.specs.declared.preset.Preset.{Preset}
use Rattle.astc_model.specs.Endpoints.{is_ldr_mode}
use Rattle.astc_model.specs.Recipes.{Group, with_seed, groups}

-- the shapes of a group: each entry with each seed
abbrev pub shapes_of : Group → List Recipe
shapes_of group = flat_map (λ seed. map (with_seed seed) group.entries)
    (range_with_len 0 group.seeds)

-- the shapes of a preset
abbrev pub shapes : Preset → List Recipe
shapes preset = flat_map shapes_of (groups preset)

-- the fields of a recipe other than its block mode are in range
pub record IsShape (recipe : Recipe) : Type 0 where
  pub component : recipe.plane ≤ 4
  pub some_part : 1 ≤ recipe.parts
  pub few_parts : recipe.parts ≤ 4
  pub seed : recipe.seed < 1024
  pub alone : recipe.parts ≡ 1 → recipe.seed ≡ 0
  pub flip : recipe.flip < 8
  pub ldr : IsTrue (is_ldr_mode recipe.cem)

-- the fields of a recipe are in range
pub record IsRecipe (recipe : Recipe) : Type 0 where
  pub mode : recipe.mode < 2048
  pub shape : IsShape recipe
