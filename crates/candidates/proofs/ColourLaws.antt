-- The colours of a candidate's partitions.
use Rattle.std.proofs.Common.{◌≡◌, ℕ, zero, suc, ◌+◌, ◌*◌, ◌<◌, ◌≤◌, true, IsTrue, rules, nat_lt, List, ◌++◌, take, drop, length, get_or, Option, refl, sym, ap, subst, ◌∙◌, arith}
use Rattle.std.specs.Prelude.{slice_index_or}
use Rattle.std.specs.List.{range_with_len, flat_map}
use Rattle.std.proofs.Math.Seq.{take-append_seam, drop-append-add}
use Rattle.std.proofs.lemmas.List.FromFn.{get_or-map-range_with_len}
use Rattle.astc_model.specs.Places.{Texel}
use Rattle.astc_model.specs.Bounds.{part_map}
use Rattle.astc_model.specs.Endpoints.{is_ldr_mode, endpoint_integers}
use Rattle.astc_model.specs.CodedTexels.{part_colours}
use Rattle.astc_model.specs.Shapes.{colour_count}
use Rattle.astc_model.specs.Candidates.{no_ends, cems_of, integers_of, integers_by_part, ends_of, ends_of_part, ends_by_part, colours_of, coded_on, coded_of}
use Rattle.astc_model.specs.Recipes.{with_mode}
use Rattle.astc_model.specs.declared.bounds.Box8.{Box8}
use Rattle.astc_model.specs.declared.level.Level.{Level}
use Rattle.astc_model.specs.declared.mode.Mode.{Mode}
use Rattle.astc_model.specs.declared.recipe.Recipe.{Recipe}
use Rattle.astc_model.specs.declared.block.Coded.{Coded as CodedFields}
use Rattle.candidates.specs.declared.colours.Palette.{Palette}
use Rattle.candidates.specs.Pieces.{bounds_by_part, colours_from, ends_from, IsPalette}
use Rattle.candidates.proofs.PieceLaws.{colours_from-is, ends_from-is}
use Rattle.candidates.proofs.LegalLaws.{cems, same_cem, length-integers_by_part}

-- the integers of a partition in the list for all partitions
rows_of : (f : ℕ → List ℕ) (m a n k : ℕ) → ((part : ℕ) → length (f part) ≡ m) → k < n
    → take m (drop (k * m) (flat_map f (range_with_len a n))) ≡ f (a + k)
rows_of f m a zero k long below = absurd (omega arith)
rows_of f m a (suc n) zero long below =
    let none : zero * m ≡ 0 = omega arith in
    let first : a + zero ≡ a = omega arith in
    rw (none, first) (ap (λ x. take x (f a ++ flat_map f (range_with_len (a + 1) n))) (sym (long a))
    ∙ take-append_seam (f a) (flat_map f (range_with_len (a + 1) n)))
rows_of f m a (suc n) (suc k) long below =
    let more : suc k * m ≡ length (f a) + k * m = omega (arith, long a) in
    let next : a + suc k ≡ a + 1 + k = omega arith in
    rw (more, next) (ap (take m) (drop-append-add (f a) (flat_map f (range_with_len (a + 1) n))
    (k * m)) ∙ rows_of f m (a + 1) n k long (omega arith))

-- the number of integers before those of a partition
count_before : (parts cem part : ℕ) → parts ≤ 4 → part < parts → colour_count part (cems parts cem)
    ≡ part * endpoint_integers cem
count_before parts cem zero few below = omega arith
count_before parts cem (suc zero) few below = omega arith
count_before parts cem (suc (suc zero)) few below =
    let e : nat_lt 1 parts ≡ true = search (rules, arith) in rw e (omega arith)
count_before parts cem (suc (suc (suc zero))) few below =
    let e : nat_lt 1 parts ≡ true = search (rules, arith) in
    let f : nat_lt 2 parts ≡ true = search (rules, arith) in
    rw (e, f) (omega arith)
count_before parts cem (suc (suc (suc (suc part)))) few below = absurd (omega arith)

colours_of_part : (recipe : Recipe) (level : Level) (parts : List ℕ) (places : List (Option Texel))
    (n part : ℕ) → recipe.parts ≤ 4 → IsTrue (is_ldr_mode recipe.cem) → part < recipe.parts
    → take (endpoint_integers recipe.cem)
    (drop (part * endpoint_integers recipe.cem) (colours_of recipe level parts places n))
    ≡ integers_by_part recipe level parts places n part
unfolding colours_of
colours_of_part recipe level parts places n part few ldr below =
    let place : 0 + part ≡ part = omega arith in
    rows_of (integers_by_part recipe level parts places n)
    (endpoint_integers recipe.cem) 0 recipe.parts part
    (λ k. length-integers_by_part recipe level parts places n k ldr) below
    ∙ ap (integers_by_part recipe level parts places n) place

-- the endpoints of a candidate's partition are those from which its integers were made
pub part_colours-are : (w h : ℕ) (recipe : Recipe) (mode : Mode) (level : Level)
    (places : List (Option Texel)) (coded : CodedFields) (part : ℕ) → coded
    ≡ coded_of w h recipe mode level places
    → recipe.parts ≤ 4 → IsTrue (is_ldr_mode recipe.cem) → part < recipe.parts
    → slice_index_or (ends_by_part recipe level (part_map w h recipe.parts recipe.seed) places
    (w * h)) part no_ends ≡ part_colours coded level part
unfolding coded_on ends_by_part ends_of_part ends_of
part_colours-are w h recipe mode level places coded part same few ldr below =
    let map_of : List ℕ = part_map w h recipe.parts recipe.seed in
    let integers : List ℕ = integers_by_part recipe level map_of places (w * h) part in
    let cem : get_or (cems_of recipe) part 0 ≡ recipe.cem =
    same_cem recipe.parts recipe.cem part few below in
    let before : colour_count part (cems_of recipe) ≡ part * endpoint_integers recipe.cem =
    count_before recipe.parts recipe.cem part few below in
    let own : take (endpoint_integers recipe.cem)
    (drop (part * endpoint_integers recipe.cem) (colours_of recipe level map_of places (w * h)))
    ≡ integers =
    colours_of_part recipe level map_of places (w * h) part few ldr below
    in
    get_or-map-range_with_len (ends_of_part recipe level map_of places (w * h)) 0 recipe.parts part
    part no_ends below (omega arith)
    ∙ sym (ap (λ c. part_colours c level part) same ∙ rw (cem, before, own) refl)

-- ---- palettes

-- the palette that is made from the bounds of the partitions
pub palette-from : (w h : ℕ) (recipe : Recipe) (level : Level) (places : List (Option Texel))
    (parts : List ℕ) (bounds : List Box8) (palette : Palette)
    → parts ≡ part_map w h recipe.parts recipe.seed → bounds
    ≡ bounds_by_part parts recipe.parts places (w * h) → palette.level ≡ level
    → palette.colours.items ≡ colours_from recipe level bounds → palette.ends.items
    ≡ ends_from recipe level bounds → IsPalette w h recipe places palette
palette-from w h recipe level places parts bounds palette map_is bounds_are level_is colours_are
    ends_are =
    let from_bounds : List Box8 → Level → Type 0 = λ bs l.
    (palette.colours.items ≡ colours_from recipe l bs)
    × (palette.ends.items ≡ ends_from recipe l bs) in
    let own : from_bounds (bounds_by_part (part_map w h recipe.parts recipe.seed) recipe.parts
    places (w * h)) palette.level =
    subst (λ l. from_bounds
    (bounds_by_part (part_map w h recipe.parts recipe.seed) recipe.parts places (w * h)) l)
    (sym level_is)
    (subst (λ bs. from_bounds bs level)
    (bounds_are ∙ ap (λ map. bounds_by_part map recipe.parts places (w * h)) map_is)
    (colours_are, ends_are))
    in
    record {
      colours = own.0 ∙ colours_from-is recipe palette.level (part_map w h recipe.parts recipe.seed)
          places (w * h);
      ends = own.1 ∙ ends_from-is recipe palette.level (part_map w h recipe.parts recipe.seed)
          places (w * h);
    }

-- the palette does not depend on the block mode
pub palette-of_mode : (w h number : ℕ) (shape : Recipe) (places : List (Option Texel))
    (palette : Palette) → IsPalette w h shape places palette
    → IsPalette w h (with_mode number shape) places palette
unfolding colours_of ends_by_part ends_of_part integers_by_part integers_of
palette-of_mode w h number shape places palette is = record { colours = is.colours; ends = is.ends }
