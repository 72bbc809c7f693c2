-- Candidates are legal blocks.
use Rattle.std.proofs.Common.{◌≡◌, ℕ, zero, suc, ◌+◌, ◌*◌, ◌/◌, ◌%◌, ◌<◌, ◌≤◌, Bool, true, false, not, ◌||◌, ◌==◌, nat_lt, IsTrue, if◌then◌else◌, List, [], ◌∷◌, map, length, get_or, Option, None, Some, Result, Ok, Err, refl, sym, ap, subst, ◌∙◌, arith, rules}
use Rattle.std.specs.Prelude.{slice_index_or}
use Rattle.std.specs.List.{All, AllByRecursion, list_all, list_any, range_with_len, flat_map}
use Rattle.std.proofs.lemmas.Bool.{and_parts, ltb-true, eqb-true, eqb-false}
use Rattle.std.proofs.lemmas.List.Elements.{All-from_recursion}
use Rattle.std.proofs.lemmas.List.FromFn.{length-range_with_len, length-map-range_with_len}
use Rattle.astc_model.specs.declared.level.Level.{Level}
use Rattle.astc_model.specs.declared.mode.Mode.{Mode}
use Rattle.astc_model.specs.declared.recipe.Recipe.{Recipe}
use Rattle.astc_model.specs.declared.block.Block.{Block}
use Rattle.astc_model.specs.declared.block.Block.TheVariants.{Coded}
use Rattle.astc_model.specs.declared.block.BlockFault.{BlockFault}
use Rattle.astc_model.specs.Places.{Texel}
use Rattle.astc_model.specs.Levels.{count_of}
use Rattle.astc_model.specs.Sums.{all_below}
use Rattle.astc_model.specs.Modes.{decoded_mode}
use Rattle.astc_model.specs.Endpoints.{is_ldr_mode, ldr_modes, endpoint_integers}
use Rattle.astc_model.specs.Nearest.{nearest_colour}
use Rattle.astc_model.specs.Shapes.{weight_count, grid_fault, colour_count, colour_shape}
use Rattle.astc_model.specs.Blocks.{Legal, IsLegalCoded}
use Rattle.astc_model.proofs.SumLaws.{every_below}
use Rattle.quant_tables.proofs.NearestLaws.{nearest_colour-is, nearest_weight-is}
use Rattle.recipes.specs.Shapes.{IsRecipe}
use Rattle.recipes.proofs.WalkLaws.{all-flat_map}
use Rattle.recipes.proofs.EntryLaws.{length-rows, length-of_map}
use Rattle.candidates.proofs.ModeLaws.{count_of_equal}
use Rattle.astc_model.specs.Ideal.{Line, values_of, ascending, line_by, ideal}
use Rattle.astc_model.specs.Bounds.{bounds_of, part_map}
use Rattle.astc_model.specs.Targets.{place_of_point, target}
use Rattle.astc_model.specs.Candidates.{Ends, no_ends, cems_of, has_planes, level_on, recipe_level, integers_of, integers_by_part, weight_of, weight_at, weight, colours_of, weights_of, ends_by_part, coded_on, coded_of, candidate_at, candidate_under, candidate}
use Rattle.std.specs.Result.{result_ok}

-- ---- the number of integers

here_or_later : (m n x : ℕ) (xs : List ℕ) (b : Bool) → (x == n) ≡ b → x < m
    → (IsTrue (list_any (λ x. x == n) xs) → n < m) → IsTrue ((x == n) || list_any (λ x. x == n) xs)
    → n < m
here_or_later m n x xs true e small later any = let same : x ≡ n = eqb-true x n e in omega arith
here_or_later m n x xs false e small later any = later (rw e at any)

-- if all numbers of a list are below m, so is a number in the list
listed_below : (m n : ℕ) (xs : List ℕ) → IsTrue (list_all (λ x. nat_lt x m) xs)
    → IsTrue (list_any (λ x. x == n) xs) → n < m
listed_below m n [] all any = absurd (cc)
listed_below m n (x ∷ xs) all any =
    let both = and_parts (nat_lt x m) (list_all (λ x. nat_lt x m) xs) all in
    here_or_later m n x xs (x == n) refl (ltb-true x m both.0) (listed_below m n xs both.1) any

pub ldr_small : (cem : ℕ) → IsTrue (is_ldr_mode cem) → cem < 16
ldr_small cem ldr = listed_below 16 cem ldr_modes refl ldr

-- the number of ideal values is that of the endpoint mode's integers
count_test : Texel → Texel → ℕ → Bool
count_test f g cem = not (is_ldr_mode cem) || (length (values_of cem f g) == endpoint_integers cem)

all_counts : (f g : Texel) → IsTrue (all_below (count_test f g) 16)
unfolding count_test
all_counts f g = refl

count_by_test : (a b : ℕ) (ldr : Bool) → IsTrue (not ldr || (a == b)) → IsTrue ldr → a ≡ b
count_by_test a b true passed ldr = eqb-true a b passed
count_by_test a b false passed ldr = absurd (cc)

length-values_of : (cem : ℕ) (f g : Texel) → IsTrue (is_ldr_mode cem) → length (values_of cem f g)
    ≡ endpoint_integers cem
unfolding count_test
length-values_of cem f g ldr =
    count_by_test (length (values_of cem f g)) (endpoint_integers cem) (is_ldr_mode cem)
    (every_below (count_test f g) 16 cem (all_counts f g) (ldr_small cem ldr)) ldr

length-ideal : (cem flip : ℕ) (lo hi : Texel) → IsTrue (is_ldr_mode cem)
    → length (ideal cem flip lo hi) ≡ endpoint_integers cem
unfolding ideal
length-ideal cem flip lo hi ldr = let line : Line = ascending (line_by cem flip lo hi) in
    length-values_of cem line.0 line.1 ldr

pub length-integers_by_part : (recipe : Recipe) (level : Level) (parts : List ℕ)
    (places : List (Option Texel)) (n part : ℕ) → IsTrue (is_ldr_mode recipe.cem)
    → length (integers_by_part recipe level parts places n part) ≡ endpoint_integers recipe.cem
unfolding integers_by_part integers_of
length-integers_by_part recipe level parts places n part ldr =
    let bounds = bounds_of parts part places n in
    length-of_map (nearest_colour level) (ideal recipe.cem recipe.flip bounds.lo bounds.hi)
    ∙ length-ideal recipe.cem recipe.flip bounds.lo bounds.hi ldr

length-colours_of : (recipe : Recipe) (level : Level) (parts : List ℕ)
    (places : List (Option Texel)) (n : ℕ) → recipe.parts ≤ 4 → IsTrue (is_ldr_mode recipe.cem)
    → length (colours_of recipe level parts places n) ≡ colour_count recipe.parts (cems_of recipe)
unfolding colours_of
length-colours_of recipe level parts places n few ldr =
    length-rows (integers_by_part recipe level parts places n) (endpoint_integers recipe.cem)
    (λ part. length-integers_by_part recipe level parts places n part ldr)
    (range_with_len 0 recipe.parts)
    ∙ ap (λ k. k * endpoint_integers recipe.cem) (length-range_with_len 0 recipe.parts)
    ∙ sym (count_of_equal recipe.parts recipe.cem few)

-- ---- the ranges

each_below : (f : ℕ → ℕ) (m : ℕ) → ((x : ℕ) → f x < m) → (xs : List ℕ)
    → AllByRecursion (λ x. x < m) (map f xs)
each_below f m small [] = tt
each_below f m small (x ∷ xs) = (small x, each_below f m small xs)

integers_small : (recipe : Recipe) (level : Level) (parts : List ℕ) (places : List (Option Texel))
    (n part : ℕ) → AllByRecursion (λ integer. integer < count_of level)
    (integers_by_part recipe level parts places n part)
unfolding integers_by_part integers_of
integers_small recipe level parts places n part =
    let bounds = bounds_of parts part places n in
    each_below (nearest_colour level) (count_of level) (λ v. (nearest_colour-is level v).within)
    (ideal recipe.cem recipe.flip bounds.lo bounds.hi)

each_of_range : (P : ℕ → Type 0) (a n : ℕ) → ((k : ℕ) → P k) → AllByRecursion P (range_with_len a n)
each_of_range P a zero all = tt
each_of_range P a (suc n) all = (all a, each_of_range P (a + 1) n all)

colours_small : (recipe : Recipe) (level : Level) (parts : List ℕ) (places : List (Option Texel))
    (n : ℕ) → All (λ integer. integer < count_of level) (colours_of recipe level parts places n)
unfolding colours_of
colours_small recipe level parts places n =
    let Small : ℕ → Type 0 = λ integer. integer < count_of level in
    let f = integers_by_part recipe level parts places n in
    let seeds = range_with_len 0 recipe.parts in
    All-from_recursion Small (flat_map f seeds)
    (all-flat_map Small f seeds
    (each_of_range (λ part. AllByRecursion Small (f part)) 0 recipe.parts
    (λ part. integers_small recipe level parts places n part)))

weight_of_small : (component : ℕ) (level : Level) (plane : ℕ) (texel : Option Texel) (ends : Ends)
    → weight_of component level plane texel ends < count_of level
unfolding weight_of
weight_of_small component level plane None ends = (nearest_weight-is level 0).within
weight_of_small component level plane (Some q) ends =
    (nearest_weight-is level (target component plane q ends.0 ends.1)).within

weight_at_small : (component : ℕ) (level : Level) (parts : List ℕ) (ends : List Ends)
    (places : List (Option Texel)) (plane : ℕ) (place : Option ℕ)
    → weight_at component level parts ends places plane place < count_of level
weight_at_small component level parts ends places plane None = (nearest_weight-is level 0).within
weight_at_small component level parts ends places plane (Some p) =
    weight_of_small component level plane (slice_index_or places p None)
    (slice_index_or ends (slice_index_or parts p 0) no_ends)

weight_small : (w h component : ℕ) (mode : Mode) (parts : List ℕ) (ends : List Ends)
    (places : List (Option Texel)) (at : ℕ)
    → weight w h component mode parts ends places at < count_of mode.level
unfolding weight
weight_small w h component mode parts ends places at =
    weight_at_small component mode.level parts ends places (at % mode.planes)
    (place_of_point w h mode.across mode.down places (at / mode.planes))

weights_small : (w h component : ℕ) (mode : Mode) (parts : List ℕ) (ends : List Ends)
    (places : List (Option Texel)) → All (λ integer. integer < count_of mode.level)
    (weights_of w h component mode parts ends places)
unfolding weights_of
weights_small w h component mode parts ends places =
    All-from_recursion (λ integer. integer < count_of mode.level)
    (weights_of w h component mode parts ends places)
    (each_below (weight w h component mode parts ends places) (count_of mode.level)
    (weight_small w h component mode parts ends places)
    (range_with_len 0 (weight_count mode)))

length-weights_of : (w h component : ℕ) (mode : Mode) (parts : List ℕ) (ends : List Ends)
    (places : List (Option Texel)) → length (weights_of w h component mode parts ends places)
    ≡ weight_count mode
unfolding weights_of
length-weights_of w h component mode parts ends places =
    length-map-range_with_len (weight w h component mode parts ends places) 0 (weight_count mode)

-- ---- the endpoint modes

abbrev pub cems : ℕ → ℕ → List ℕ
cems parts cem = cem ∷ (if nat_lt 1 parts then cem else 0) ∷ (if nat_lt 2 parts then cem else 0)
    ∷ (if nat_lt 3 parts then cem else 0) ∷ []

mode_or_0 : (b : Bool) (cem : ℕ) → cem < 16 → (if b then cem else 0) < 16
mode_or_0 true cem small = small
mode_or_0 false cem small = omega arith

cems_small : (parts cem : ℕ) → cem < 16 → All (λ c. c < 16) (cems parts cem)
cems_small parts cem small = All-from_recursion (λ c. c < 16) (cems parts cem) (
  small,
  (
    mode_or_0 (nat_lt 1 parts) cem small,
    (mode_or_0 (nat_lt 2 parts) cem small, (mode_or_0 (nat_lt 3 parts) cem small, tt)),
  ),
)

no_cem : (parts cem part : ℕ) → 1 ≤ parts → parts ≤ part → get_or (cems parts cem) part 0 ≡ 0
no_cem parts cem zero some past = absurd (omega arith)
no_cem parts cem (suc zero) some past = let e : nat_lt 1 parts ≡ false = search (rules, arith) in
    rw e refl
no_cem parts cem (suc (suc zero)) some past = let e : nat_lt 2 parts ≡ false =
    search (rules, arith) in rw e refl
no_cem parts cem (suc (suc (suc zero))) some past = let e : nat_lt 3 parts ≡ false =
    search (rules, arith) in rw e refl
no_cem parts cem (suc (suc (suc (suc part)))) some past = refl

pub same_cem : (parts cem part : ℕ) → parts ≤ 4 → part < parts → get_or (cems parts cem) part 0
    ≡ cem
same_cem parts cem zero few past = refl
same_cem parts cem (suc zero) few past = let e : nat_lt 1 parts ≡ true = search (rules, arith) in
    rw e refl
same_cem parts cem (suc (suc zero)) few past = let e : nat_lt 2 parts ≡ true =
    search (rules, arith) in rw e refl
same_cem parts cem (suc (suc (suc zero))) few past = let e : nat_lt 3 parts ≡ true =
    search (rules, arith) in rw e refl
same_cem parts cem (suc (suc (suc (suc part)))) few past = absurd (omega arith)

-- ---- the plane

planes_by : (component planes : ℕ) (none : Bool) → (component == 0) ≡ none
    → (if none then planes == 1 else planes == 2) ≡ true → component ≤ 4
    → (planes ≡ 1 → component ≡ 0) × (planes ≡ 2 → (1 ≤ component) × (component ≤ 4))
planes_by component planes true e has few =
    let one : planes ≡ 1 = eqb-true planes 1 has in
    ((λ _. eqb-true component 0 e), (λ two. absurd (omega arith)))
planes_by component planes false e has few =
    let two : planes ≡ 2 = eqb-true planes 2 has in
    ((λ one. absurd (omega arith)), (λ _. (omega (arith, eqb-false component 0 e), few)))

-- ---- the block

pub record IsFitting (w h : ℕ) (recipe : Recipe) (mode : Mode) (level : Level) : Type 0 where
  pub planes : has_planes recipe mode ≡ true
  pub grid : grid_fault w h mode ≡ None
  pub colours : colour_shape mode recipe.parts 0 (cems_of recipe) ≡ Ok level

ok_of_some : (o : Result Level BlockFault) (level : Level) → result_ok o ≡ Some level → o ≡ Ok level
ok_of_some (Ok x) level is = cc
ok_of_some (Err e) level is = absurd (cc)

on_grid : (recipe : Recipe) (mode : Mode) (level : Level) (fault : Option BlockFault)
    → level_on recipe mode fault ≡ Some level → (fault ≡ None)
    × (colour_shape mode recipe.parts 0 (cems_of recipe) ≡ Ok level)
on_grid recipe mode level None is =
    (refl, ok_of_some (colour_shape mode recipe.parts 0 (cems_of recipe)) level is)
on_grid recipe mode level (Some fault) is = absurd (cc)

with_planes : (b : Bool) (o : Option Level) (level : Level) → (if b then o else None) ≡ Some level
    → (b ≡ true) × (o ≡ Some level)
with_planes true o level is = (refl, is)
with_planes false o level is = absurd (cc)

pub recipe_level-some : (w h : ℕ) (recipe : Recipe) (mode : Mode) (level : Level)
    → recipe_level w h recipe mode ≡ Some level → IsFitting w h recipe mode level
unfolding recipe_level
recipe_level-some w h recipe mode level is =
    let planes = with_planes (has_planes recipe mode) (level_on recipe mode (grid_fault w h mode))
    level is in
    let rest = on_grid recipe mode level (grid_fault w h mode) planes.1 in
    record { planes = planes.0; grid = rest.0; colours = rest.1 }

pub coded_on-legal : (w h : ℕ) (recipe : Recipe) (mode : Mode) (level : Level) (parts : List ℕ)
    (places : List (Option Texel)) → IsRecipe recipe → decoded_mode recipe.mode ≡ Some mode
    → IsFitting w h recipe mode level
    → IsLegalCoded w h (coded_on w h recipe mode level parts places) mode level
unfolding coded_on
coded_on-legal w h recipe mode level parts places is known fits =
    let plane = planes_by recipe.plane mode.planes (recipe.plane == 0) refl fits.planes
    is.shape.component in
    let ends = ends_by_part recipe level parts places (w * h) in
    record {
      fields = record {
        mode_range = is.mode;
        some_part = is.shape.some_part;
        four_parts = is.shape.few_parts;
        seed_range = is.shape.seed;
        selector_range = omega arith;
        four_modes = refl;
        mode_ranges = cems_small recipe.parts recipe.cem (ldr_small recipe.cem is.shape.ldr);
      };
      spares = record {
        no_seed = is.shape.alone;
        no_selector = λ _. refl;
        no_mode = λ part past. no_cem recipe.parts recipe.cem part is.shape.some_part past;
        selected = λ part below. record {
          same = λ _. same_cem recipe.parts recipe.cem part is.shape.few_parts below;
          low_class = omega arith;
          high_class = λ some. absurd (omega arith);
        };
      };
      mode_known = known;
      no_grid_fault = fits.grid;
      no_colour_fault = fits.colours;
      plane_named = record { one = plane.0; two = plane.1 };
      all_colours = length-colours_of recipe level parts places
          (w * h) is.shape.few_parts is.shape.ldr;
      colour_ranges = colours_small recipe level parts places (w * h);
      all_weights = length-weights_of w h recipe.plane mode parts ends places;
      weight_ranges = weights_small w h recipe.plane mode parts ends places;
    }

legal_at : (w h : ℕ) (recipe : Recipe) (mode : Mode) (o : Option Level)
    (places : List (Option Texel)) (block : Block) → IsRecipe recipe → decoded_mode recipe.mode
    ≡ Some mode → recipe_level w h recipe mode ≡ o → candidate_at w h recipe mode o places
    ≡ Some block → Legal w h block
legal_at w h recipe mode None places block is known level made = absurd (cc)
legal_at w h recipe mode (Some level) places block is known fits made =
    let same : Coded (coded_of w h recipe mode level places) ≡ block = cc in
    subst (λ b. Legal w h b) same (
      mode,
      level,
      coded_on-legal w h recipe mode level
          (part_map w h recipe.parts recipe.seed) places is known
          (recipe_level-some w h recipe mode level fits),
    )

legal_under : (w h : ℕ) (recipe : Recipe) (o : Option Mode) (places : List (Option Texel))
    (block : Block) → IsRecipe recipe → decoded_mode recipe.mode ≡ o
    → candidate_under w h recipe o places ≡ Some block → Legal w h block
legal_under w h recipe None places block is known made = absurd (cc)
legal_under w h recipe (Some mode) places block is known made =
    legal_at w h recipe mode (recipe_level w h recipe mode) places block is known refl made

-- every candidate is legal
pub candidate-legal : (w h : ℕ) (recipe : Recipe) (places : List (Option Texel)) (block : Block)
    → IsRecipe recipe → candidate w h recipe places ≡ Some block → Legal w h block
unfolding candidate
candidate-legal w h recipe places block is made =
    legal_under w h recipe (decoded_mode recipe.mode) places block is refl made
