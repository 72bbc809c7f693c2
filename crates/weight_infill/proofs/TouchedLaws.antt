-- The factor of a grid point in a texel, computed by columns and rows, and the texels whose weight
-- depends on a point.
use Rattle.std.proofs.Common.{◌≡◌, ℕ, zero, suc, ◌+◌, ◌-◌, ◌*◌, ◌/◌, ◌%◌, ◌<◌, ◌≤◌, ◌==◌, nat_lt, ◌&&◌, Bool, true, false, cond, List, [], ◌∷◌, ◌++◌, get_or, map, refl, ap, sym, ◌∙◌, add-one, append_assoc, append-nil, eq-eqb, mod-lt, arith, inl, inr}
use Rattle.std.specs.List.{All}
use Rattle.std.proofs.lemmas.Bool.{cases_eq, cases_lt, ne_eqb, eqb-true}
use Rattle.std.proofs.lemmas.Nat.{div-mul-add, mod-mul-add, div-add-mod'}
use Rattle.std.proofs.Math.Nat.{mul-le-mul_left}
use Rattle.std.proofs.lemmas.List.Elements.{All-append, All-from_recursion}
use Rattle.std.proofs.lemmas.List.FromFn.{filter_of_map_range_with_len_more}
use Rattle.astc_model.specs.Infill.{Corner, IsZeroOutside, corners, corners_at, factors, grid_position, last_factor, placed}
use Rattle.weight_infill.specs.declared.touching.Share.{Share}
use Rattle.weight_infill.specs.declared.touching.Share.TheVariants.{Apart, Near, Far}
use Rattle.weight_infill.specs.Touched.{factor_among, factor_of, is_touched, touched_below, share_of, factor_between, row_touched}
use Rattle.weight_infill.proofs.InfillLaws.{IsTexel, corners-outside}

-- ---- the factor of a grid point

nothing : (b : Bool) → ◌≡◌ {A = ℕ} (cond b 0 0) 0
nothing true = refl
nothing false = refl

-- the index of a point determines its column and row
same_place : (n i j c r : ℕ) → i < n → c < n → r * n + c ≡ j * n + i → (c ≡ i) × (r ≡ j)
same_place n i j c r i_in c_in same = (
  sym (mod-mul-add r n c c_in) ∙ ap (λ k. k % n) same ∙ mod-mul-add j n i i_in,
  sym (div-mul-add r n c c_in) ∙ ap (λ k. k / n) same ∙ div-mul-add j n i i_in,
)

-- one of the four points adds its factor if it is the point in column i and row j
term : (n i j c r f : ℕ) → i < n → (n ≤ c → f ≡ 0)
    → cond (cond (f == 0) 0 (r * n + c) == j * n + i) f 0 ≡ cond (c == i && r == j) f 0
term n i j c r zero i_in out = nothing (cond (0 == 0) 0 (r * n + c) == j * n + i)
    ∙ sym (nothing (c == i && r == j))
term n i j c r (suc f) i_in out =
    let some : (suc f == 0) ≡ false = ne_eqb (suc f) 0 (λ none. absurd (omega arith)) in
    let c_in : c < n = elim (cases_lt c n) [
      | inl within ↦ within
      | inr beyond ↦ let none : suc f
          ≡ 0 = out beyond in absurd (omega arith)
    ] in
    rw some (tests c_in)
  where
    tests : c < n → cond (r * n + c == j * n + i) (suc f) 0 ≡ cond (c == i && r == j) (suc f) 0
    tests c_in =
        elim (cases_eq c i) [
          | inl column ↦
              elim (cases_eq r j) [
                | inl row ↦ rw (
                  column,
                  row,
                  eq-eqb (j * n + i)
                      (j * n + i) refl,
                  eq-eqb i i refl,
                  eq-eqb j j refl,
                ) refl
                | inr other ↦
                    rw (
                      ne_eqb (r * n + c) (j * n + i)
                          (λ same. other (same_place n i j c r i_in c_in same).1),
                      eq-eqb c i
                          column,
                      ne_eqb r j other,
                    ) refl
              ]
          | inr other ↦ rw (
            ne_eqb (r * n + c) (j * n + i)
                (λ same. other (same_place n i j c r i_in c_in same).0),
            ne_eqb c i other,
          ) refl
        ]

-- the factor of the point in column i and row j is the sum over the four points
among : (n m i j js jt fs ft : ℕ) → i < n → All (IsZeroOutside n m) (corners_at js jt fs ft)
    → factor_among (j * n + i) (map (placed n) (corners_at js jt fs ft))
    ≡ cond (js == i && jt == j) (16 + last_factor fs ft - fs - ft) 0 + cond (js + 1 == i && jt == j)
    (fs - last_factor fs ft) 0
    + cond (js == i && jt + 1 == j) (ft - last_factor fs ft) 0 + cond (js + 1 == i && jt + 1 == j)
    (last_factor fs ft) 0
among n m i j js jt fs ft i_in outside =
    let d : Corner = record { column = 0; row = 0; factor = 0 } in
    omega (
      arith,
      term n i j js jt (16 + last_factor fs ft - fs - ft) i_in
          (outside 0 d (omega arith)).beyond_columns,
      term n i j (js + 1) jt (fs - last_factor fs ft) i_in
          (outside 1 d (omega arith)).beyond_columns,
      term n i j js (jt + 1) (ft - last_factor fs ft) i_in
          (outside 2 d (omega arith)).beyond_columns,
      term n i j (js + 1) (jt + 1) (last_factor fs ft) i_in
          (outside 3 d (omega arith)).beyond_columns,
    )

-- at most one of the four points is the point in column i and row j
between : (a b c d : Bool) (fs ft : ℕ) → (a ≡ true → b ≡ false) → (c ≡ true → d ≡ false)
    → cond (a && c) (16 + last_factor fs ft - fs - ft) 0 + cond (b && c)
    (fs - last_factor fs ft) 0 + cond (a && d) (ft - last_factor fs ft) 0 + cond (b && d)
    (last_factor fs ft) 0
    ≡ factor_between (cond a (Near fs) (cond b (Far fs) Apart))
    (cond c (Near ft) (cond d (Far ft) Apart))
between true true c d fs ft one two = let no : true ≡ false = one refl in cc
between true false true true fs ft one two = let no : true ≡ false = two refl in cc
between true false true false fs ft one two = omega arith
between true false false true fs ft one two = omega arith
between true false false false fs ft one two = refl
between false true true true fs ft one two = let no : true ≡ false = two refl in cc
between false true true false fs ft one two = omega arith
between false true false true fs ft one two = omega arith
between false true false false fs ft one two = refl
between false false c d fs ft one two = none (c) d
  where
    none : (c d : Bool) → cond (false && c) (16 + last_factor fs ft - fs - ft) 0 + cond (false && c)
        (fs - last_factor fs ft) 0 + cond (false && d) (ft - last_factor fs ft) 0 + cond
        (false && d) (last_factor fs ft) 0 ≡ 0
    none c d = refl

exclusive : (a i : ℕ) → (a == i) ≡ true → (a + 1 == i) ≡ false
exclusive a i same = ne_eqb (a + 1) i (λ next. let e : a ≡ i = eqb-true a i same in absurd
    (omega arith))

pub factor-is : (w h n m point x y : ℕ) → IsTexel w h n m x y
    → factor_of w h n m point x y ≡ factor_between (share_of w n (point % n) x)
    (share_of h m (point / n) y)
unfolding factor_of factors corners
factor-is w h n m point x y texel =
    let gs : ℕ = grid_position w n x in
    let gt : ℕ = grid_position h m y in
    let i_in : point % n < n = mod-lt point (omega (arith, texel.some_columns)) in
    let place : point ≡ point / n * n + point % n = sym (div-add-mod' point n) in
    ap (λ k. factor_among k (map (placed n) (corners_at (gs / 16) (gt / 16) (gs % 16) (gt % 16))))
    place
    ∙ among n m (point % n) (point / n) (gs / 16) (gt / 16) (gs % 16) (gt % 16) i_in
    (corners-outside w h n m x y texel)
    ∙ between (gs / 16 == point % n) (gs / 16 + 1 == point % n) (gt / 16 == point / n)
    (gt / 16 + 1 == point / n) (gs % 16) (gt % 16)
    (exclusive (gs / 16) (point % n)) (exclusive (gt / 16) (point / n))

-- ---- the texels that depend on a grid point

apart : (share : Share) → factor_between share Apart ≡ 0
apart Apart = refl
apart (Near f) = refl
apart (Far f) = refl

pub row_touched-more : (across : List Share) (down : Share) (y k : ℕ)
    → row_touched across down y (k + 1) ≡ row_touched across down y k ++ cond
    (nat_lt 0 (factor_between (get_or across k Apart) down)) ((k, y) ∷ []) []
unfolding row_touched
row_touched-more across down y k =
    filter_of_map_range_with_len_more
    (λ texel. nat_lt 0 (factor_between (get_or across texel.0 Apart) down)) (λ x. (x, y)) 0 k k
    (omega arith)

pub row_touched-none : (across : List Share) (down : Share) (y : ℕ) → row_touched across down y 0
    ≡ []
unfolding row_touched
row_touched-none across down y = refl

-- a row of texels that is apart from the point's row has none
pub row_touched-apart : (across : List Share) (y k : ℕ) → row_touched across Apart y k ≡ []
row_touched-apart across y zero = row_touched-none across Apart y
row_touched-apart across y (suc k) =
    let more : row_touched across Apart y (k + 1) ≡ row_touched across Apart y k ++ cond
    (nat_lt 0 (factor_between (get_or across k Apart) Apart)) ((k, y) ∷ []) [] =
    row_touched-more across Apart y k
    in
    rw (add-one k, apart (get_or across k Apart), row_touched-apart across y k) at more

-- a step of the loop over columns, for a texel that depends on the point and one that does not
pub column_taken : (across : List Share) (down : Share) (y k : ℕ) (front items : List (ℕ × ℕ))
    → items ≡ front ++ row_touched across down y k
    → nat_lt 0 (factor_between (get_or across k Apart) down) ≡ true → items ++ (k, y) ∷ []
    ≡ front ++ row_touched across down y (k + 1)
column_taken across down y k front items is on =
    rw (row_touched-more across down y k, on, is) (append_assoc front (row_touched across down y k)
    ((k, y) ∷ []))

pub column_left : (across : List Share) (down : Share) (y k : ℕ) (front items : List (ℕ × ℕ))
    → items ≡ front ++ row_touched across down y k
    → nat_lt 0 (factor_between (get_or across k Apart) down) ≡ false → items
    ≡ front ++ row_touched across down y (k + 1)
column_left across down y k front items is off =
    rw (row_touched-more across down y k, off, append-nil (row_touched across down y k)) is

pub touched_below-none : (w h n m point : ℕ) → touched_below w h n m point 0 ≡ []
unfolding touched_below
touched_below-none w h n m point = refl

pub touched_below-more : (w h n m point k : ℕ)
    → touched_below w h n m point (k + 1) ≡ touched_below w h n m point k ++ cond
    (is_touched w h n m point (k % w, k / w)) ((k % w, k / w) ∷ []) []
unfolding touched_below
touched_below-more w h n m point k = filter_of_map_range_with_len_more (is_touched w h n m point)
    (λ p. (p % w, p / w)) 0 k k (omega arith)

one_or_none : (P : ℕ × ℕ → Type 0) (b : Bool) (texel : ℕ × ℕ) → P texel
    → All P (cond b (texel ∷ []) [])
one_or_none P true texel holds = All-from_recursion P (texel ∷ []) (holds, tt)
one_or_none P false texel holds = All-from_recursion P [] tt

-- the texels are within the block
pub touched_inside : (w h n m point k : ℕ) → 0 < w → k ≤ w * h
    → All (λ texel. (texel.0 < w) × (texel.1 < h)) (touched_below w h n m point k)
touched_inside w h n m point zero some within = rw (touched_below-none w h n m point)
    (All-from_recursion (λ texel. (texel.0 < w) × (texel.1 < h)) [] tt)
touched_inside w h n m point (suc k) some within =
    let row : k / w < h = elim (cases_lt (k / w) h) [
      | inl less ↦ less
      | inr more ↦ absurd (omega (arith, mul-le-mul_left w more))
    ] in
    let more : touched_below w h n m point (suc k) ≡ touched_below w h n m point k ++ cond
    (is_touched w h n m point (k % w, k / w)) ((k % w, k / w) ∷ []) [] =
    rw (add-one k) at (touched_below-more w h n m point k)
    in
    rw more
    (All-append (λ texel. (texel.0 < w) × (texel.1 < h)) (touched_below w h n m point k) _
    (touched_inside w h n m point k some (omega arith))
    (one_or_none (λ texel. (texel.0 < w) × (texel.1 < h)) (is_touched w h n m point (k % w, k / w))
    (k % w, k / w) (mod-lt k some, row)))

-- the ranges of a grid that fits its block
pub record IsGrid (w h n m : ℕ) : Type 0 where
  pub width : w ≤ 12
  pub height : h ≤ 12
  pub some_columns : 2 ≤ n
  pub some_rows : 2 ≤ m
  pub columns : n ≤ w
  pub rows : m ≤ h

module _ (w h n m point y : ℕ) (across : List Share) (down : Share) (grid : IsGrid w h n m)
    (y_in : y < h)
    (across_are : (x : ℕ) → x < w → get_or across x Apart ≡ share_of w n (point % n) x)
    (down_is : down ≡ share_of h m (point / n) y) where
  -- the test of a texel of the row by columns and rows
  test-is : (k : ℕ) → k < w → is_touched w h n m point (k, y)
      ≡ nat_lt 0 (factor_between (get_or across k Apart) down)
  test-is k k_in =
      let texel : IsTexel w h n m k y = record {
        width = grid.width;
        height = grid.height;
        some_columns = grid.some_columns;
        some_rows = grid.some_rows;
        columns = grid.columns;
        rows = grid.rows;
        across = k_in;
        down = y_in;
      } in
      rw (across_are k k_in, down_is) (ap (nat_lt 0) (factor-is w h n m point k y texel))

  pub row-is : (k : ℕ) → k ≤ w → touched_below w h n m point (y * w + k)
      ≡ touched_below w h n m point (y * w) ++ row_touched across down y k
  row-is zero within =
      let same : y * w + 0 ≡ y * w = omega arith in
      rw (same, row_touched-none across down y)
      (sym (append-nil (touched_below w h n m point (y * w))))
  row-is (suc k) within =
      let next : y * w + suc k ≡ y * w + k + 1 = omega arith in
      let column : (y * w + k) % w ≡ k = mod-mul-add y w k (omega arith) in
      let row : (y * w + k) / w ≡ y = div-mul-add y w k (omega arith) in
      let last : touched_below w h n m point (y * w + k + 1)
      ≡ touched_below w h n m point (y * w + k) ++ cond (is_touched w h n m point (k, y))
      ((k, y) ∷ []) [] =
      rw (column, row) at (touched_below-more w h n m point (y * w + k))
      in
      let more : row_touched across down y (suc k) ≡ row_touched across down y k ++ cond
      (nat_lt 0 (factor_between (get_or across k Apart) down)) ((k, y) ∷ []) [] =
      rw (add-one k) at (row_touched-more across down y k)
      in
      rw (next, last, more, test-is k (omega arith), row-is k (omega arith))
      (append_assoc (touched_below w h n m point (y * w)) (row_touched across down y k)
      (cond (nat_lt 0 (factor_between (get_or across k Apart) down)) ((k, y) ∷ []) []))
