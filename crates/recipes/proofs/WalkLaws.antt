-- A property holds for all recipes of a preset exactly if it holds for all its shapes with all
-- block modes.
use Rattle.std.proofs.Common.{◌≡◌, ℕ, zero, suc, ◌+◌, ◌<◌, ◌≤◌, List, [], ◌∷◌, ◌++◌, map, arith, Option, None, Some, inl, inr}
use Rattle.std.proofs.lemmas.Bool.{cases_lt}
use Rattle.std.specs.Option.{IfSome}
use Rattle.std.specs.List.{AllByRecursion, range_with_len, flat_map, filter_map, cons_option}
use Rattle.astc_model.specs.declared.recipe.Recipe.{Recipe}
use Rattle.astc_model.specs.declared.preset.Preset.{Preset}
use Rattle.astc_model.specs.Recipes.{Group, with_mode, with_seed, recipes_of, recipes, groups}
use Rattle.recipes.specs.Shapes.{shapes_of, shapes}

-- ---- lists

pub all-append : {X : Type 0} (P : X → Type 0) (xs ys : List X) → AllByRecursion P xs
    → AllByRecursion P ys → AllByRecursion P (xs ++ ys)
all-append P [] ys a b = b
all-append P (x ∷ xs) ys a b = (a.0, all-append P xs ys a.1 b)

pub append-all : {X : Type 0} (P : X → Type 0) (xs ys : List X) → AllByRecursion P (xs ++ ys)
    → AllByRecursion P xs × AllByRecursion P ys
append-all P [] ys a = (tt, a)
append-all P (x ∷ xs) ys a = let rest = append-all P xs ys a.1 in ((a.0, rest.0), rest.1)

pub all-map : {X Y : Type 0} (P : Y → Type 0) (f : X → Y) (xs : List X)
    → AllByRecursion (λ x. P (f x)) xs → AllByRecursion P (map f xs)
all-map P f [] a = a
all-map P f (x ∷ xs) a = (a.0, all-map P f xs a.1)

pub map-all : {X Y : Type 0} (P : Y → Type 0) (f : X → Y) (xs : List X)
    → AllByRecursion P (map f xs) → AllByRecursion (λ x. P (f x)) xs
map-all P f [] a = a
map-all P f (x ∷ xs) a = (a.0, map-all P f xs a.1)

pub all-flat_map : {X Y : Type 0} (P : Y → Type 0) (f : X → List Y) (xs : List X)
    → AllByRecursion (λ x. AllByRecursion P (f x)) xs → AllByRecursion P (flat_map f xs)
all-flat_map P f [] a = a
all-flat_map P f (x ∷ xs) a = all-append P (f x) (flat_map f xs) a.0 (all-flat_map P f xs a.1)

pub flat_map-all : {X Y : Type 0} (P : Y → Type 0) (f : X → List Y) (xs : List X)
    → AllByRecursion P (flat_map f xs) → AllByRecursion (λ x. AllByRecursion P (f x)) xs
flat_map-all P f [] a = a
flat_map-all P f (x ∷ xs) a = let both = append-all P (f x) (flat_map f xs) a in
    (both.0, flat_map-all P f xs both.1)

pub all-weaker : {X : Type 0} (P Q : X → Type 0) → ((x : X) → P x → Q x) → (xs : List X)
    → AllByRecursion P xs → AllByRecursion Q xs
all-weaker P Q h [] a = a
all-weaker P Q h (x ∷ xs) a = (h x a.0, all-weaker P Q h xs a.1)

-- a property of each number of a range
pub all-range : (P : ℕ → Type 0) (a n : ℕ) → ((k : ℕ) → a ≤ k → k < a + n → P k)
    → AllByRecursion P (range_with_len a n)
all-range P a zero h = tt
all-range P a (suc n) h = (
  h a (omega arith) (omega arith),
  all-range P (a + 1) n
      (λ k low high. h k (omega arith) (omega arith)),
)

pub range-all : (P : ℕ → Type 0) (a n : ℕ) → AllByRecursion P (range_with_len a n) → (k : ℕ) → a ≤ k
    → k < a + n → P k
range-all P a zero all k low high = absurd (omega arith)
range-all P a (suc n) all k low high = elim (cases_lt a k) [
  | inl above ↦ range-all P (a + 1) n all.1 k (omega arith) (omega arith)
  | inr not_above ↦ let same : k ≡ a = omega arith in rw same all.0
]

-- "for all x and all y" is "for all y and all x"
pub exchanged : {X Y : Type 0} (P : X → Y → Type 0) (xs : List X) (ys : List Y)
    → AllByRecursion (λ x. AllByRecursion (P x) ys) xs
    → AllByRecursion (λ y. AllByRecursion (λ x. P x y) xs) ys
exchanged P xs [] a = tt
exchanged P xs (y ∷ ys) a = (
  all-weaker (λ x. AllByRecursion (P x) (y ∷ ys)) (λ x. P x y) (λ x both. both.0) xs a,
  exchanged P xs ys (all-weaker (λ x. AllByRecursion (P x) (y ∷ ys)) (λ x. AllByRecursion (P x) ys)
      (λ x both. both.1) xs a),
)

-- ---- a group

-- if a property holds for each shape of a group with each mode, it holds for each recipe of the
-- group
pub group_walk : (P : Recipe → Type 0) (modes : ℕ) (group : Group)
    → AllByRecursion (λ mode. AllByRecursion (λ shape. P (with_mode mode shape)) (shapes_of group))
    (range_with_len 0 modes) → AllByRecursion P (recipes_of modes group)
group_walk P modes group a =
    let seeds = range_with_len 0 group.seeds in
    let all_modes = range_with_len 0 modes in
    let Q : ℕ → ℕ → Type 0 = λ mode seed.
    AllByRecursion (λ entry. P (with_mode mode (with_seed seed entry))) group.entries in
    let by_mode : AllByRecursion (λ mode. AllByRecursion (Q mode) seeds) all_modes =
    all-weaker (λ mode. AllByRecursion (λ shape. P (with_mode mode shape)) (shapes_of group))
    (λ mode. AllByRecursion (Q mode) seeds)
    (λ mode b. all-weaker (λ seed. AllByRecursion (λ shape. P (with_mode mode shape))
    (map (with_seed seed) group.entries)) (Q mode)
    (λ seed c. map-all (λ shape. P (with_mode mode shape)) (with_seed seed) group.entries c)
    seeds (flat_map-all (λ shape. P (with_mode mode shape))
    (λ seed. map (with_seed seed) group.entries) seeds b))
    all_modes a in
    let by_seed : AllByRecursion (λ seed. AllByRecursion (λ mode. Q mode seed) all_modes) seeds =
    exchanged Q all_modes seeds by_mode in
    all-flat_map P (λ seed.
    flat_map (λ mode. map (λ entry. with_mode mode (with_seed seed entry)) group.entries)
    all_modes) seeds
    (all-weaker (λ seed. AllByRecursion (λ mode. Q mode seed) all_modes)
    (λ seed. AllByRecursion P
    (flat_map (λ mode. map (λ entry. with_mode mode (with_seed seed entry)) group.entries)
    all_modes))
    (λ seed b. all-flat_map P
    (λ mode. map (λ entry. with_mode mode (with_seed seed entry)) group.entries) all_modes
    (all-weaker (λ mode. Q mode seed)
    (λ mode. AllByRecursion P
    (map (λ entry. with_mode mode (with_seed seed entry)) group.entries))
    (λ mode c. all-map P (λ entry. with_mode mode (with_seed seed entry)) group.entries c) all_modes
    b))
    seeds by_seed)

pub group_listed : (P : Recipe → Type 0) (modes : ℕ) (group : Group)
    → AllByRecursion P (recipes_of modes group)
    → AllByRecursion (λ mode. AllByRecursion (λ shape. P (with_mode mode shape)) (shapes_of group))
    (range_with_len 0 modes)
group_listed P modes group a =
    let seeds = range_with_len 0 group.seeds in
    let all_modes = range_with_len 0 modes in
    let Q : ℕ → ℕ → Type 0 = λ mode seed.
    AllByRecursion (λ entry. P (with_mode mode (with_seed seed entry))) group.entries in
    let by_seed : AllByRecursion (λ seed. AllByRecursion (λ mode. Q mode seed) all_modes) seeds =
    all-weaker (λ seed. AllByRecursion P
    (flat_map (λ mode. map (λ entry. with_mode mode (with_seed seed entry)) group.entries)
    all_modes))
    (λ seed. AllByRecursion (λ mode. Q mode seed) all_modes)
    (λ seed b. all-weaker (λ mode.
    AllByRecursion P (map (λ entry. with_mode mode (with_seed seed entry))
    group.entries)) (λ mode. Q mode seed)
    (λ mode c. map-all P (λ entry. with_mode mode (with_seed seed entry)) group.entries c) all_modes
    (flat_map-all P (λ mode. map (λ entry. with_mode mode (with_seed seed entry)) group.entries)
    all_modes b))
    seeds (flat_map-all P (λ seed.
    flat_map (λ mode. map (λ entry. with_mode mode (with_seed seed entry))
    group.entries) all_modes) seeds a) in
    let by_mode : AllByRecursion (λ mode. AllByRecursion (Q mode) seeds) all_modes =
    exchanged (λ seed mode. Q mode seed) seeds all_modes by_seed in
    all-weaker (λ mode. AllByRecursion (Q mode) seeds)
    (λ mode. AllByRecursion (λ shape. P (with_mode mode shape)) (shapes_of group))
    (λ mode b. all-flat_map (λ shape. P (with_mode mode shape))
    (λ seed. map (with_seed seed) group.entries) seeds
    (all-weaker (Q mode) (λ seed. AllByRecursion (λ shape. P (with_mode mode shape))
    (map (with_seed seed) group.entries))
    (λ seed c. all-map (λ shape. P (with_mode mode shape)) (with_seed seed) group.entries c) seeds
    b))
    all_modes by_mode

-- ---- groups

abbrev pub Walked : (Recipe → Type 0) → ℕ → List Recipe → Type 0
Walked P modes shapes =
    AllByRecursion (λ mode. AllByRecursion (λ shape. P (with_mode mode shape)) shapes)
    (range_with_len 0 modes)

pub groups_walk : (P : Recipe → Type 0) (modes : ℕ) (gs : List Group)
    → Walked P modes (flat_map shapes_of gs) → AllByRecursion P (flat_map (recipes_of modes) gs)
groups_walk P modes [] a = tt
groups_walk P modes (group ∷ rest) a =
    let all_modes = range_with_len 0 modes in
    let Shapes : List Recipe → ℕ → Type 0 = λ shapes mode.
    AllByRecursion (λ shape. P (with_mode mode shape)) shapes in
    let here : Walked P modes (shapes_of group) =
    all-weaker (Shapes (shapes_of group ++ flat_map shapes_of rest)) (Shapes (shapes_of group))
    (λ mode b. (append-all (λ shape. P (with_mode mode shape)) (shapes_of group)
    (flat_map shapes_of rest) b).0) all_modes a in
    let later : Walked P modes (flat_map shapes_of rest) =
    all-weaker (Shapes (shapes_of group ++ flat_map shapes_of rest))
    (Shapes (flat_map shapes_of rest))
    (λ mode b. (append-all (λ shape. P (with_mode mode shape)) (shapes_of group)
    (flat_map shapes_of rest) b).1) all_modes a in
    all-append P (recipes_of modes group) (flat_map (recipes_of modes) rest)
    (group_walk P modes group here) (groups_walk P modes rest later)

both_lists : (P : Recipe → Type 0) (xs ys : List Recipe) (all_modes : List ℕ)
    → AllByRecursion (λ mode. AllByRecursion (λ shape. P (with_mode mode shape)) xs) all_modes
    → AllByRecursion (λ mode. AllByRecursion (λ shape. P (with_mode mode shape)) ys) all_modes
    → AllByRecursion (λ mode. AllByRecursion (λ shape. P (with_mode mode shape)) (xs ++ ys))
    all_modes
both_lists P xs ys [] a b = tt
both_lists P xs ys (mode ∷ modes) a b =
    (all-append (λ shape. P (with_mode mode shape)) xs ys a.0 b.0, both_lists P xs ys modes a.1 b.1)

nothing_everywhere : {X : Type 0} (P : X → ℕ → Type 0) (modes : List ℕ)
    → AllByRecursion (λ mode. AllByRecursion (λ x. P x mode) []) modes
nothing_everywhere P [] = tt
nothing_everywhere P (mode ∷ modes) = (tt, nothing_everywhere P modes)

pub groups_listed : (P : Recipe → Type 0) (modes : ℕ) (gs : List Group)
    → AllByRecursion P (flat_map (recipes_of modes) gs) → Walked P modes (flat_map shapes_of gs)
groups_listed P modes [] a = nothing_everywhere (λ shape mode. P (with_mode mode shape))
    (range_with_len 0 modes)
groups_listed P modes (group ∷ rest) a =
    let both = append-all P (recipes_of modes group) (flat_map (recipes_of modes) rest) a in
    both_lists P (shapes_of group) (flat_map shapes_of rest) (range_with_len 0 modes)
    (group_listed P modes group both.0) (groups_listed P modes rest both.1)

-- ---- presets

pub walk_meets_all : (P : Recipe → Type 0) (preset : Preset)
    → ((mode : ℕ) → mode < 2048 → AllByRecursion (λ shape. P (with_mode mode shape))
    (shapes preset)) → AllByRecursion P (recipes preset)
unfolding recipes
walk_meets_all P preset a = groups_walk P 2048 (groups preset)
    (all-range (λ mode. AllByRecursion (λ shape. P (with_mode mode shape)) (shapes preset)) 0 2048
    (λ mode low high. a mode (omega arith)))

pub all_meets_walk : (P : Recipe → Type 0) (preset : Preset) → AllByRecursion P (recipes preset)
    → (mode : ℕ) → mode < 2048 → AllByRecursion (λ shape. P (with_mode mode shape)) (shapes preset)
unfolding recipes
all_meets_walk P preset a mode below =
    range-all (λ mode. AllByRecursion (λ shape. P (with_mode mode shape)) (shapes preset)) 0 2048
    (groups_listed P 2048 (groups preset) a) mode (omega arith) (omega arith)

-- ---- properties of a list after a function is applied

some_or_none : {Y : Type 0} (P : Y → Type 0) (o : Option Y) (ys : List Y) → IfSome o P
    → AllByRecursion P ys → AllByRecursion P (cons_option o ys)
some_or_none P None ys here rest = rest
some_or_none P (Some y) ys here rest = (here, rest)

pub all-filter_map : {X Y : Type 0} (P : Y → Type 0) (f : X → Option Y) (xs : List X)
    → AllByRecursion (λ x. IfSome (f x) P) xs → AllByRecursion P (filter_map f xs)
all-filter_map P f [] a = tt
all-filter_map P f (x ∷ xs) a = some_or_none P (f x) (filter_map f xs) a.0
    (all-filter_map P f xs a.1)

some_and_rest : {Y : Type 0} (P : Y → Type 0) (o : Option Y) (ys : List Y)
    → AllByRecursion P (cons_option o ys) → IfSome o P × AllByRecursion P ys
some_and_rest P None ys all = (tt, all)
some_and_rest P (Some y) ys all = all

pub filter_map-all : {X Y : Type 0} (P : Y → Type 0) (f : X → Option Y) (xs : List X)
    → AllByRecursion P (filter_map f xs) → AllByRecursion (λ x. IfSome (f x) P) xs
filter_map-all P f [] a = tt
filter_map-all P f (x ∷ xs) a = let both = some_and_rest P (f x) (filter_map f xs) a in
    (both.0, filter_map-all P f xs both.1)
