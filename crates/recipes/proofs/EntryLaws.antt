-- The recipe at an index of the list is found by division, without going through the list.
use Rattle.std.proofs.Common.{◌≡◌, ℕ, zero, suc, ◌+◌, ◌-◌, ◌*◌, ◌/◌, ◌%◌, ◌<◌, ◌≤◌, nat_lt, List, [], ◌∷◌, ◌++◌, map, length, get_or, refl, ap, ◌∙◌, arith, Bool, true, false, if◌then◌else◌, length-append, mul_comm, take, drop, length-drop, div-lt_iff_lt-mul}
use Rattle.std.proofs.lemmas.List.{get_or_append_left, get_or-append-add, get_or-append_right, get_or-take, get_or-drop, length-take-le}
use Rattle.std.proofs.lemmas.Bool.{ltb-true, ltb-false}
use Rattle.std.proofs.lemmas.List.FromFn.{length-range_with_len, get_or-range_with_len}
use Rattle.std.specs.List.{range_with_len, flat_map}
use Rattle.astc_model.specs.declared.recipe.Recipe.{Recipe}
use Rattle.astc_model.specs.declared.preset.Preset.{Preset}
use Rattle.astc_model.specs.Recipes.{Group, with_mode, with_seed, recipes_of, recipes, groups}
use Rattle.recipes.specs.Entries.{size_of, no_recipe, entry_of, entry_at, size_of_all}
use Rattle.recipes.specs.Shapes.{shapes}
use Rattle.astc_model.specs.declared.preset.Preset.TheVariants.{Flat, Quick, Medium, Thorough, Pairs}
use Rattle.std.specs.Prelude.{slice_index_or}

-- the length of a list that consists of lists of equal length
pub length-rows : {X Y : Type 0} (f : X → List Y) (w : ℕ) → ((x : X) → length (f x) ≡ w)
    → (xs : List X) → length (flat_map f xs) ≡ length xs * w
length-rows f w each [] = omega arith
length-rows f w each (x ∷ xs) =
    let here : length (f x) ≡ w = each x in
    let rest : length (flat_map f xs) ≡ length xs * w = length-rows f w each xs in
    simp length-append (omega (arith, here, rest))

-- entry r of list q in a list that consists of lists of equal length
pub get_or-rows : {X Y : Type 0} (f : X → List Y) (w : ℕ) → ((x : X) → length (f x) ≡ w)
    → (xs : List X) (q r : ℕ) (d : Y) (e : X) → q < length xs → r < w
    → get_or (flat_map f xs) (q * w + r) d ≡ get_or (f (get_or xs q e)) r d
get_or-rows f w each [] q r d e row column = absurd (omega arith)
get_or-rows f w each (x ∷ xs) zero r d e row column =
    let here : length (f x) ≡ w = each x in
    let within : r < length (f x) = omega arith in
    let place : zero * w + r ≡ r = omega arith in
    rw place (get_or_append_left (f x) (flat_map f xs) d r within)
get_or-rows f w each (x ∷ xs) (suc q) r d e row column =
    let here : length (f x) ≡ w = each x in
    let place : suc q * w + r ≡ length (f x) + (q * w + r) = omega arith in
    let below : q < length xs = omega arith in
    rw place (get_or-append-add (f x) (flat_map f xs) (q * w + r) d
    ∙ get_or-rows f w each xs q r d e below column)

pub get_or-of_map : {X Y : Type 0} (f : X → Y) (xs : List X) (k : ℕ) (d : Y) (e : X) → k < length xs
    → get_or (map f xs) k d ≡ f (get_or xs k e)
get_or-of_map f [] k d e below = absurd (omega arith)
get_or-of_map f (x ∷ xs) zero d e below = refl
get_or-of_map f (x ∷ xs) (suc k) d e below = get_or-of_map f xs k d e (omega arith)

pub length-of_map : {X Y : Type 0} (f : X → Y) (xs : List X) → length (map f xs) ≡ length xs
length-of_map f [] = refl
length-of_map f (x ∷ xs) = ap suc (length-of_map f xs)

-- ---- a group

abbrev of_mode : Group → ℕ → ℕ → List Recipe
of_mode group seed mode = map (λ entry. with_mode mode (with_seed seed entry)) group.entries

abbrev of_seed : ℕ → Group → ℕ → List Recipe
of_seed modes group seed = flat_map (of_mode group seed) (range_with_len 0 modes)

length-of_seed : (modes : ℕ) (group : Group) (seed : ℕ) → length (of_seed modes group seed)
    ≡ modes * length group.entries
length-of_seed modes group seed =
    length-rows (of_mode group seed) (length group.entries)
    (λ mode. length-of_map (λ entry. with_mode mode (with_seed seed entry)) group.entries)
    (range_with_len 0 modes)
    ∙ ap (λ n. n * length group.entries) (length-range_with_len 0 modes)

pub length-recipes_of : (modes : ℕ) (group : Group) → length (recipes_of modes group)
    ≡ size_of modes group
length-recipes_of modes group =
    length-rows (of_seed modes group) (modes * length group.entries) (length-of_seed modes group)
    (range_with_len 0 group.seeds)
    ∙ ap (λ n. n * (modes * length group.entries)) (length-range_with_len 0 group.seeds)

-- the recipe of a group at the index for a seed, a mode and an entry
at_of_group : (modes : ℕ) (group : Group) (seed mode k : ℕ) → seed < group.seeds → mode < modes
    → k < length group.entries → mode * length group.entries + k < modes * length group.entries
    → get_or (recipes_of modes group)
    (seed * (modes * length group.entries) + (mode * length group.entries + k)) no_recipe
    ≡ with_mode mode (with_seed seed (get_or group.entries k no_recipe))
at_of_group modes group seed mode k s m e within =
    let n = length group.entries in
    let all_seeds : seed < length (range_with_len 0 group.seeds) =
    rw (length-range_with_len 0 group.seeds) s in
    let all_modes : mode < length (range_with_len 0 modes) = rw (length-range_with_len 0 modes) m in
    let by_seed : get_or (recipes_of modes group) (seed * (modes * n) + (mode * n + k)) no_recipe
    ≡ get_or (of_seed modes group (get_or (range_with_len 0 group.seeds) seed 0))
    (mode * n + k) no_recipe =
    get_or-rows (of_seed modes group) (modes * n) (length-of_seed modes group)
    (range_with_len 0 group.seeds) seed (mode * n + k) no_recipe 0 all_seeds within in
    let the_seed : get_or (range_with_len 0 group.seeds) seed 0 ≡ seed =
    get_or-range_with_len 0 group.seeds seed 0 s ∙ omega arith in
    let by_mode : get_or (of_seed modes group seed) (mode * n + k) no_recipe
    ≡ get_or (of_mode group seed (get_or (range_with_len 0 modes) mode 0)) k no_recipe =
    get_or-rows (of_mode group seed) n
    (λ m. length-of_map (λ entry. with_mode m (with_seed seed entry)) group.entries)
    (range_with_len 0 modes) mode k no_recipe 0 all_modes e in
    let the_mode : get_or (range_with_len 0 modes) mode 0 ≡ mode =
    get_or-range_with_len 0 modes mode 0 m ∙ omega arith in
    by_seed ∙ ap (λ s. get_or (of_seed modes group s) (mode * n + k) no_recipe) the_seed ∙ by_mode
    ∙ ap (λ m. get_or (of_mode group seed m) k no_recipe) the_mode
    ∙ get_or-of_map (λ entry. with_mode mode (with_seed seed entry)) group.entries k no_recipe
    no_recipe e

positive : (a b i : ℕ) → i < a * b → 0 < b
positive a zero i below = absurd (omega arith)
positive a (suc b) i below = omega arith

whole : (i w : ℕ) → 0 < w → i / w * w + i % w ≡ i
whole i w some = omega (arith, mul_comm (i / w) w)

quotient_below : (i w n : ℕ) → 0 < w → i < n * w → i / w < n
quotient_below i w n some below = (div-lt_iff_lt-mul some).1 below

pub at_group : (modes : ℕ) (group : Group) (i : ℕ) → i < size_of modes group
    → get_or (recipes_of modes group) i no_recipe ≡ entry_of modes group i
at_group modes group i below =
    let n = length group.entries in
    let w = modes * n in
    let some : 0 < w = positive group.seeds w i below in
    let some_entry : 0 < n = positive modes n (i % w) (omega arith) in
    let seed : i / w < group.seeds = quotient_below i w group.seeds some below in
    let column : i % w < w = omega arith in
    let mode : i % w / n < modes = quotient_below (i % w) n modes some_entry column in
    let k : i % w % n < n = omega arith in
    let inner : i % w / n * n + i % w % n ≡ i % w = whole (i % w) n some_entry in
    let outer : i / w * w + i % w ≡ i = whole i w some in
    let here = at_of_group modes group (i / w) (i % w / n) (i % w % n) seed mode k
    (rw inner column) in
    (rw (inner, outer) at here)

-- ---- groups

pub length-flat_map_recipes : (modes : ℕ) (gs : List Group)
    → length (flat_map (recipes_of modes) gs) ≡ size_of_all modes gs
length-flat_map_recipes modes [] = refl
length-flat_map_recipes modes (group ∷ rest) =
    length-append (recipes_of modes group) (flat_map (recipes_of modes) rest)
    ∙ ap (λ n. n + length (flat_map (recipes_of modes) rest)) (length-recipes_of modes group)
    ∙ ap (λ n. size_of modes group + n) (length-flat_map_recipes modes rest)

rest_below : {a b i : ℕ} → a ≤ i → i < a + b → i - a < b
rest_below h k = omega arith

-- the index belongs to the first group or to a later one
first_or_later : (modes : ℕ) (group : Group) (rest : List Group) (i : ℕ) (b : Bool)
    → nat_lt i (size_of modes group) ≡ b → i < size_of_all modes (group ∷ rest)
    → ((j : ℕ) → j < size_of_all modes rest → get_or (flat_map (recipes_of modes) rest) j no_recipe
    ≡ entry_at modes rest j)
    → get_or (recipes_of modes group ++ flat_map (recipes_of modes) rest) i no_recipe
    ≡ (if b then entry_of modes group i else entry_at modes rest (i - size_of modes group))
first_or_later modes group rest i true e below later =
    let within : i < size_of modes group = ltb-true i (size_of modes group) e in
    let size : length (recipes_of modes group) ≡ size_of modes group =
    length-recipes_of modes group in
    let inside : i < length (recipes_of modes group) = rw size within in
    get_or_append_left (recipes_of modes group) (flat_map (recipes_of modes) rest) no_recipe i
    inside ∙ at_group modes group i within
first_or_later modes group rest i false e below later =
    let past : size_of modes group ≤ i = ltb-false i (size_of modes group) e in
    get_or-append_right (recipes_of modes group) (flat_map (recipes_of modes) rest)
    (size_of modes group) i no_recipe (length-recipes_of modes group) past
    ∙ later (i - size_of modes group) (rest_below past below)

pub at_groups : (modes : ℕ) (gs : List Group) (i : ℕ) → i < size_of_all modes gs
    → get_or (flat_map (recipes_of modes) gs) i no_recipe ≡ entry_at modes gs i
at_groups modes [] i below = absurd (omega arith)
at_groups modes (group ∷ rest) i below =
    first_or_later modes group rest i (nat_lt i (size_of modes group)) refl below
    (at_groups modes rest)

-- ---- presets

pub length-recipes : (preset : Preset) → length (recipes preset) ≡ size_of_all 2048 (groups preset)
unfolding recipes
length-recipes preset = length-flat_map_recipes 2048 (groups preset)

pub at_recipes : (preset : Preset) (i : ℕ) → i < length (recipes preset)
    → slice_index_or (recipes preset) i no_recipe ≡ entry_at 2048 (groups preset) i
unfolding recipes
at_recipes preset i below = at_groups 2048 (groups preset) i
    (rw (← length-flat_map_recipes 2048 (groups preset)) below)

-- ---- computed values for the lists

at_1075 : entry_at 2048 (groups Quick) 1075 ≡ record {
  mode = 537;
  plane = 0;
  parts = 1;
  seed = 0;
  cem = 12;
  flip = 0;
}
unfolding groups
at_1075 = refl

at_59391 : entry_at 2048 (groups Medium) 59391
    ≡ record { mode = 2047; plane = 0; parts = 2; seed = 15; cem = 8; flip = 0 }
unfolding groups
at_59391 = refl

at_81475 : entry_at 2048 (groups Thorough) 81475
    ≡ record { mode = 347; plane = 2; parts = 1; seed = 0; cem = 1; flip = 0 }
unfolding groups
at_81475 = refl

at_361119 : entry_at 2048 (groups Thorough) 361119
    ≡ record { mode = 1359; plane = 0; parts = 2; seed = 51; cem = 12; flip = 0 }
unfolding groups
at_361119 = refl

sizes : (size_of_all 2048 (groups Quick) ≡ 4096) × (size_of_all 2048 (groups Medium) ≡ 59392)
    × (size_of_all 2048 (groups Thorough) ≡ 542720)
unfolding groups
sizes = (refl, refl, refl)

-- the numbers of shapes of the presets
shape_counts : (length (shapes Quick) ≡ 2) × (length (shapes Medium) ≡ 29)
    × (length (shapes Thorough) ≡ 265)
unfolding groups
shape_counts = (refl, refl, refl)

-- ---- the numbers of recipes

pub flat_count : length (recipes Flat) ≡ 0
unfolding groups
flat_count = length-recipes Flat

pub quick_count : length (recipes Quick) ≡ 4096
unfolding groups
quick_count = length-recipes Quick

pub pairs_count : length (recipes Pairs) ≡ 4096
unfolding groups
pairs_count = length-recipes Pairs

pub medium_count : length (recipes Medium) ≡ 59392
unfolding groups
medium_count = length-recipes Medium

pub thorough_count : length (recipes Thorough) ≡ 542720
unfolding groups
thorough_count = length-recipes Thorough

-- ---- the groups in the code's table

pub length-cut : {X : Type 0} (xs : List X) (first count n : ℕ) → length xs ≡ n → first + count ≤ n
    → length (take count (drop first xs)) ≡ count
length-cut xs first count n size within =
    let rest : length (drop first xs) ≡ length xs - first = length-drop first xs in
    length-take-le count (drop first xs) (omega arith)

pub get_or-cut : {X : Type 0} (xs : List X) (first count k : ℕ) (d : X) → k < count
    → get_or (take count (drop first xs)) k d ≡ get_or xs (first + k) d
get_or-cut xs first count k d below = get_or-take count (drop first xs) k d below
    ∙ get_or-drop first xs k d
