-- The recipe at an index of a preset's list, computed by division.
use Rattle.std.specs.Prelude.{ℕ, ◌+◌, ◌-◌, ◌*◌, ◌/◌, ◌%◌, nat_lt, if◌then◌else◌, List, [], ◌∷◌, length, slice_index_or}
use Rattle.astc_model.specs.declared.recipe.Recipe.{Recipe}
use Rattle.astc_model.specs.Recipes.{Group, entry, with_mode, with_seed}

-- the number of recipes of a group
abbrev pub size_of : ℕ → Group → ℕ
size_of modes group = group.seeds * (modes * length group.entries)

-- a value for indices past the end, with no partitions
abbrev pub no_recipe : Recipe
no_recipe = entry 0 0 0 0

-- recipe i of a group: the index is split into seed, mode and entry, the seed being the outermost
abbrev pub entry_of : ℕ → Group → ℕ → Recipe
entry_of modes group i =
    let n = length group.entries in
    with_mode (i % (modes * n) / n)
    (with_seed (i / (modes * n)) (slice_index_or group.entries (i % (modes * n) % n) no_recipe))

-- recipe i of a list of groups
abbrev pub entry_at : ℕ → List Group → ℕ → Recipe
entry_at modes [] i = no_recipe
entry_at modes (group ∷ rest) i =
    if nat_lt i (size_of modes group) then entry_of modes group i else entry_at modes rest
    (i - size_of modes group)

-- the number of recipes of a list of groups
abbrev pub size_of_all : ℕ → List Group → ℕ
size_of_all modes [] = 0
size_of_all modes (group ∷ rest) = size_of modes group + size_of_all modes rest
