-- If all places are inside the image, the closest place is in the closest column and the closest
-- row.
use Rattle.std.proofs.Common.{◌≡◌, ℕ, zero, suc, ◌+◌, ◌*◌, ◌/◌, ◌%◌, ◌<◌, ◌≤◌, Bool, true, false, nat_lt, if◌then◌else◌, List, map, Option, None, Some, length, refl, sym, ap, ◌∙◌, arith, inl, inr, add-one, mul_comm, mul-le-mul_right, div-lt_iff_lt-mul}
use Rattle.std.specs.Prelude.{slice_index, slice_index_or}
use Rattle.std.specs.Option.{IsSome}
use Rattle.std.specs.List.{All, range_with_len}
use Rattle.std.proofs.lemmas.Bool.{ltb-true, ltb-false, cases_lt}
use Rattle.std.proofs.lemmas.Nat.{mod-mul-add, div-mul-add}
use Rattle.std.proofs.lemmas.List.FromFn.{get_or-map-range_with_len}
use Rattle.astc_model.specs.Places.{Texel}
use Rattle.astc_model.specs.Targets.{distance, nearer_if, nearest_inside, place_of_point}
use Rattle.candidates.specs.Pieces.{grid_places}
use Rattle.candidates.specs.Sides.{first_least, side_distance, nearest_on_side, side_places, place_of_sides, grid_of_sides}

pub first_least_more : (f : ℕ → ℕ) (n : ℕ) → first_least f (n + 1)
    ≡ (if nat_lt (f n) (f (first_least f n)) then n else first_least f n)
first_least_more f n = rw add-one refl

record IsFirstLeast (f : ℕ → ℕ) (n i : ℕ) : Type 0 where
  within : i < n
  least : (j : ℕ) → j < n → f i ≤ f j
  first : (j : ℕ) → j < i → f i < f j

-- a step of the search for the first least value
one_more : (f : ℕ → ℕ) (n i : ℕ) (b : Bool) → nat_lt (f n) (f i) ≡ b → IsFirstLeast f n i
    → IsFirstLeast f (suc n) (if b then n else i)
one_more f n i true e is =
    let less : f n < f i = ltb-true (f n) (f i) e in
    record {
      within = omega arith;
      least = λ j below. elim (cases_lt j n) [
        | inl before ↦ let h : f i ≤ f j = is.least j before in
            omega arith
        | inr last ↦ let same : j ≡ n = omega arith in rw same (omega arith)
      ];
      first = λ j below. let h : f i ≤ f j = is.least j below in omega arith;
    }
one_more f n i false e is =
    let more : f i ≤ f n = ltb-false (f n) (f i) e in
    record {
      within = omega (arith, is.within);
      least = λ j below. elim (cases_lt j n) [
        | inl before ↦ is.least j before
        | inr last ↦ let same : j ≡ n = omega arith in rw same more
      ];
      first = is.first;
    }

zero_first : (f : ℕ → ℕ) (b : Bool) → nat_lt (f 0) (f 0) ≡ b → IsFirstLeast f 1 (if b then 0 else 0)
zero_first f true e = absurd (omega (arith, ltb-true (f 0) (f 0) e))
zero_first f false e = record {
  within = omega arith;
  least = λ j below. let same : j ≡ 0 = omega arith in rw same (omega arith);
  first = λ j below. absurd (omega arith);
}

first_least-is : (f : ℕ → ℕ) (n : ℕ) → IsFirstLeast f (suc n) (first_least f (suc n))
first_least-is f zero = zero_first f (nat_lt (f 0) (f 0)) refl
first_least-is f (suc n) = one_more f (suc n) (first_least f (suc n))
    (nat_lt (f (suc n)) (f (first_least f (suc n)))) refl (first_least-is f n)

-- only one number is the first least
first_least-one : (f : ℕ → ℕ) (n i j : ℕ) → IsFirstLeast f n i → IsFirstLeast f n j → i ≡ j
first_least-one f n i j a b = elim (cases_lt i j) [
  | inl before ↦ let less : f j < f i = b.first i before in let h : f i ≤ f j =
      a.least j b.within in absurd (omega arith)
  | inr not_before ↦ elim (cases_lt j i) [
    | inl after ↦ let less : f i < f j = a.first j after in let h : f j ≤ f i =
        b.least i a.within in absurd (omega arith)
    | inr not_after ↦ omega arith
  ]
]

same_row : (w x y q r : ℕ) → x < w → y ≤ q → q * w + r < y * w + x → q ≡ y
same_row w x y q r within below before = elim (cases_lt y q) [
  | inl more ↦ let h : suc y * w ≤ q * w = mul-le-mul_right w more in absurd (omega arith)
  | inr not_more ↦ omega arith
]

same_column : (w x y q r : ℕ) → q ≡ y → q * w + r < y * w + x → r < x
same_column w x y q r same before = let rows : q * w ≡ y * w = ap (λ k. k * w) same in omega arith

-- if f is a sum of a function of the column and one of the row, its first least place is in the
-- first least column and row
separate : (A B : ℕ → ℕ) (w h x y : ℕ) → 0 < w → IsFirstLeast A w x → IsFirstLeast B h y
    → y * w + x < h * w → (y * w + x) % w ≡ x → (y * w + x) / w ≡ y
    → IsFirstLeast (λ p. A (p % w) + B (p / w)) (h * w) (y * w + x)
separate A B w h x y some a b within column row = record {
  within = within;
  least = λ p below.
      let low : A x ≤ A (p % w) = a.least (p % w) (omega arith) in
      let rows : p / w < h = (div-lt_iff_lt-mul some).1 below in
      let left : B y ≤ B (p / w) = b.least (p / w) rows in
      rw (column, row) (omega arith);
  first = λ p before.
      let whole : w * (p / w) + p % w ≡ p = omega arith in
      let low : A x ≤ A (p % w) = a.least (p % w) (omega arith) in
      let parts : (p / w) * w + p % w ≡ p = omega (arith, mul_comm (p / w) w) in
      rw (column, row) (elim (cases_lt (p / w) y) [
        | inl above ↦ let less : B y < B (p / w) = b.first (p / w) above in omega arith
        | inr below ↦
            let beside : p / w ≡ y = same_row w x y (p / w) (p % w) a.within below
            (rw (← parts) at before) in
            let earlier : p % w < x = same_column w x y (p / w) (p % w) beside
            (rw (← parts) at before) in
            let less : A x < A (p % w) = a.first (p % w) earlier in
            let same : B (p / w) ≡ B y = ap B beside in
            omega arith
      ]);
}

-- ---- all places inside

row_within : (w h x y : ℕ) → x < w → y < h → y * w + x < h * w
row_within w h x y column row = let rows : suc y * w ≤ h * w = mul-le-mul_right w row in omega arith

zero_either : (b : Bool) (k : ℕ) → k ≡ (if b then k else k)
zero_either true k = refl
zero_either false k = refl

first_place : (far : ℕ → ℕ) (place : Option Texel) → IsSome place → nearer_if far 0 place None
    ≡ Some (first_least far 1)
first_place far None inside = absurd (cc)
first_place far (Some texel) inside = ap Some (zero_either (nat_lt (far 0) (far 0)) 0)

either_some : (b : Bool) (p q : ℕ) → ◌≡◌ {A = Option ℕ} (if b then Some p else Some q)
    (Some (if b then p else q))
either_some true p q = refl
either_some false p q = refl

next_place : (far : ℕ → ℕ) (p : ℕ) (place : Option Texel) (best : Option ℕ) (q : ℕ) → IsSome place
    → best ≡ Some q → nearer_if far p place best ≡ Some (if nat_lt (far p) (far q) then p else q)
next_place far p None best q inside is = absurd (cc)
next_place far p (Some texel) None q inside is = absurd (cc)
next_place far p (Some texel) (Some r) q inside is = let same : r ≡ q = cc in
    rw same (either_some (nat_lt (far p) (far q)) p q)

-- if all places are inside, the search over inside places is a search over all places
all_inside : (far : ℕ → ℕ) (places : List (Option Texel)) (n : ℕ)
    → ((p : ℕ) → p < suc n → IsSome (slice_index_or places p None))
    → nearest_inside far places (suc n) ≡ Some (first_least far (suc n))
unfolding nearest_inside
all_inside far places zero each = first_place far (slice_index_or places 0 None)
    (each 0 (omega arith))
all_inside far places (suc n) each =
    let before : nearest_inside far places (suc n) ≡ Some (first_least far (suc n)) =
    all_inside far places n (λ p below. each p (omega arith)) in
    next_place far (suc n) (slice_index_or places (suc n) None) (nearest_inside far places (suc n))
    (first_least far (suc n)) (each (suc n) (omega arith)) before

-- the closest inside place, if all places are inside and the distance is a sum over column and row
nearest_of_sides : (A B : ℕ → ℕ) (places : List (Option Texel)) (w h n : ℕ) → 0 < w → 0 < h → suc n
    ≡ h * w → ((p : ℕ) → p < suc n → IsSome (slice_index_or places p None))
    → nearest_inside (λ p. A (p % w) + B (p / w)) places (suc n)
    ≡ Some (first_least B h * w + first_least A w)
nearest_of_sides A B places w zero n some_w some_h whole each = absurd (omega arith)
nearest_of_sides A B places zero (suc h) n some_w some_h whole each = absurd (omega arith)
nearest_of_sides A B places (suc w) (suc h) n some_w some_h whole each =
    let far : ℕ → ℕ = λ p. A (p % suc w) + B (p / suc w) in
    let x = first_least A (suc w) in
    let y = first_least B (suc h) in
    let a : IsFirstLeast A (suc w) x = first_least-is A w in
    let b : IsFirstLeast B (suc h) y = first_least-is B h in
    let within : y * suc w + x < suc h * suc w = row_within (suc w) (suc h) x y a.within b.within in
    let here : IsFirstLeast far (suc h * suc w) (y * suc w + x) = separate A B (suc w) (suc h) x y
    (omega arith) a b within (mod-mul-add y (suc w) x a.within)
    (div-mul-add y (suc w) x a.within) in
    let there : IsFirstLeast far (suc n) (first_least far (suc n)) = first_least-is far n in
    all_inside far places n each
    ∙ ap Some (first_least-one far (suc n) (first_least far (suc n)) (y * suc w + x) there
    (rw whole here))

-- the same for a number of places that is known to be above 0
of_count : (A B : ℕ → ℕ) (places : List (Option Texel)) (w h count : ℕ) → 0 < w → 0 < h → 0 < count
    → count ≡ h * w → ((p : ℕ) → p < count → IsSome (slice_index_or places p None))
    → nearest_inside (λ p. A (p % w) + B (p / w)) places count
    ≡ Some (first_least B h * w + first_least A w)
of_count A B places w h zero some_w some_h some whole each = absurd (omega arith)
of_count A B places w h (suc n) some_w some_h some whole each =
    nearest_of_sides A B places w h n some_w some_h whole each

point_by_sides : (w h n m k : ℕ) (places : List (Option Texel)) → 0 < w → 0 < h → 0 < w * h
    → ((p : ℕ) → p < w * h → IsSome (slice_index_or places p None))
    → place_of_point w h n m places k ≡ Some (place_of_sides w h n m k)
unfolding place_of_point distance place_of_sides nearest_on_side side_distance
point_by_sides w h n m k places some_w some_h some each =
    of_count (side_distance w n m (k % n)) (side_distance h m n (k / n)) places w h
    (w * h) some_w some_h some (mul_comm w h) each

map_same : {X : Type 0} (f g : ℕ → X) (a n : ℕ) → ((k : ℕ) → f k ≡ g k) → map f (range_with_len a n)
    ≡ map g (range_with_len a n)
map_same f g a zero same = refl
map_same f g a (suc n) same =
    let here : f a ≡ g a = same a in
    let rest : map f (range_with_len (a + 1) n) ≡ map g (range_with_len (a + 1) n) =
    map_same f g (a + 1) n same in
    cc

pub grid_by_sides : (w h n m : ℕ) (places : List (Option Texel)) → 0 < w → 0 < h → 0 < w * h
    → length places ≡ w * h → All IsSome places → grid_of_sides w h n m ≡ grid_places w h n m places
unfolding grid_of_sides grid_places
grid_by_sides w h n m places some_w some_h some count each =
    map_same (λ k. Some (place_of_sides w h n m k)) (place_of_point w h n m places) 0 (n * m)
    (λ k. sym (point_by_sides w h n m k places some_w some_h some
    (λ p below. each p None (omega arith))))

-- the closest place to a grid point along a side, from the list for the side
pub side_place : (side points others at : ℕ) (items : List ℕ) → items
    ≡ side_places side points others → at < points
    → slice_index items at ≡ nearest_on_side side points others at
unfolding side_places
side_place side points others at items is below = ap (λ xs. slice_index xs at) is
    ∙ get_or-map-range_with_len (nearest_on_side side points others) 0 points at at 0 below
    (omega arith)

pub point_row : (k n m : ℕ) → 0 < n → k < n * m → k / n < m
point_row k n m some below = (div-lt_iff_lt-mul some).1 (rw (mul_comm n m) at below)

-- the closest place along a side is a place of the side
least_within : (f : ℕ → ℕ) (n : ℕ) → 0 < n → first_least f n < n
least_within f zero some = absurd (omega arith)
least_within f (suc n) some = (first_least-is f n).within

pub place_within : (w h n m k : ℕ) → 0 < w → 0 < h → place_of_sides w h n m k < h * w
unfolding place_of_sides nearest_on_side
place_within w h n m k some_w some_h =
    row_within w h (first_least (side_distance w n m (k % n)) w)
    (first_least (side_distance h m n (k / n)) h)
    (least_within (side_distance w n m (k % n)) w some_w)
    (least_within (side_distance h m n (k / n)) h some_h)
