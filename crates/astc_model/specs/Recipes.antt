-- The recipes of each preset: a list of groups, whose entries are combined with seeds and block
-- modes.
use Rattle.std.specs.Prelude.{ℕ, ◌-◌, List, [], ◌∷◌, map}
use Rattle.std.specs.List.{range_with_len, flat_map}
use Rattle.astc_model.specs.declared.recipe.Recipe.{Recipe}
use Rattle.astc_model.specs.declared.preset.Preset.{Preset}
use Rattle.astc_model.specs.declared.preset.Preset.TheVariants.{Flat, Quick, Medium, Thorough, Pairs}

-- a recipe with block mode 0 and seed 0
abbrev pub entry : (plane parts cem flip : ℕ) → Recipe
entry plane parts cem flip = record {
  mode = 0;
  plane = plane;
  parts = parts;
  seed = 0;
  cem = cem;
  flip = flip;
}

-- the recipe with another block mode, and with another seed
abbrev pub with_mode : ℕ → Recipe → Recipe
with_mode mode recipe = record recipe { mode = mode }

abbrev pub with_seed : ℕ → Recipe → Recipe
with_seed seed recipe = record recipe { seed = seed }

-- a group of recipes: the number of its seeds, which are counted from 0, and its entries, which are
-- combined with each seed and each block mode
pub record Group : Type 0 where
  pub seeds : ℕ
  pub entries : List Recipe

-- the endpoint modes of the LDR profile, in order
abbrev pub all_cems : List ℕ
all_cems = 0 ∷ 1 ∷ 4 ∷ 5 ∷ 6 ∷ 8 ∷ 9 ∷ 10 ∷ 12 ∷ 13 ∷ []

-- the groups, in order
abbrev pub group_1 : Group
group_1 = record { seeds = 1; entries = map (λ cem. entry 0 1 cem 0) (8 ∷ 12 ∷ []) }

abbrev pub group_2 : Group
group_2 = record { seeds = 1; entries = map (λ cem. entry 0 1 cem 0) (0 ∷ 4 ∷ 6 ∷ 10 ∷ []) }

abbrev pub group_3 : Group
group_3 = record {
  seeds = 1;
  entries = flat_map (λ cem. map (λ flip. entry 0 1 cem flip) (1 ∷ 2 ∷ 4 ∷ []))
      (8 ∷ 12 ∷ []);
}

abbrev pub group_4 : Group
group_4 = record { seeds = 1; entries = entry 4 1 12 0 ∷ [] }

abbrev pub group_5 : Group
group_5 = record { seeds = 16; entries = entry 0 2 8 0 ∷ [] }

abbrev pub group_6 : Group
group_6 = record { seeds = 1; entries = map (λ cem. entry 0 1 cem 0) (1 ∷ 5 ∷ 9 ∷ 13 ∷ []) }

abbrev pub group_7 : Group
group_7 = record {
  seeds = 1;
  entries = flat_map (λ plane. map (λ cem. entry plane 1 cem 0) all_cems)
      (1 ∷ 2 ∷ 3 ∷ 4 ∷ []);
}

abbrev pub group_8 : Group
group_8 = record { seeds = 64; entries = map (λ cem. entry 0 2 cem 0) (8 ∷ 12 ∷ []) }

abbrev pub group_9 : Group
group_9 = record { seeds = 16; entries = map (λ cem. entry 0 3 cem 0) (6 ∷ 8 ∷ []) }

abbrev pub group_10 : Group
group_10 = record { seeds = 16; entries = map (λ cem. entry 0 4 cem 0) (0 ∷ 6 ∷ []) }

-- the groups of the presets quick, medium and thorough; each has those of the one before
abbrev pub quick_groups : List Group
quick_groups = group_1 ∷ []

abbrev pub medium_groups : List Group
medium_groups = group_1 ∷ group_2 ∷ group_3 ∷ group_4 ∷ group_5 ∷ []

abbrev pub thorough_groups : List Group
thorough_groups = group_1 ∷ group_2 ∷ group_3 ∷ group_4 ∷ group_5 ∷ group_6 ∷ group_7 ∷ group_8
    ∷ group_9 ∷ group_10 ∷ []

-- the groups of each preset; flat has none, and pairs has those of quick
unfoldable pub groups : Preset → List Group
groups Flat = []
groups Quick = quick_groups
groups Medium = medium_groups
groups Thorough = thorough_groups
groups Pairs = quick_groups

-- the recipes of a group with this number of block modes: ordered by seed, then by mode, then by
-- entry
abbrev pub recipes_of : ℕ → Group → List Recipe
recipes_of modes group =
    flat_map (λ seed. flat_map
    (λ mode. map (λ entry. with_mode mode (with_seed seed entry)) group.entries)
    (range_with_len 0 modes)) (range_with_len 0 group.seeds)

-- the recipes of a preset, in order
unfoldable pub recipes : Preset → List Recipe
recipes preset = flat_map (recipes_of 2048) (groups preset)
