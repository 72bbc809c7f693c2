-- Texels put block by block.
use Rattle.std.proofs.Common.{◌≡◌, ◌≢◌, ℕ, ◌+◌, ◌-◌, ◌*◌, ◌/◌, ◌%◌, ◌<◌, ◌≤◌, Bool, true, false, cond, ◌&&◌, IsTrue, nat_lt, List, [], length, refl, sym, ◌∙◌, ap, arith, inl, inr}
use Rattle.std.specs.Prelude.{slice_index_or, slice_set}
use Rattle.std.proofs.Math.Nat.{div-lt_iff_lt-mul, mod-lt, lt-div-mul-add}
use Rattle.std.proofs.lemmas.Bool.{cases_lt, lt-ltb, ltb-true}
use Rattle.std.proofs.lemmas.Nat.{mul-add-lt, div-mul-add, mod-mul-add, div-add-mod'}
use Rattle.std.proofs.lemmas.List.{get_or-set_same, get_or-set_other, length-set}
use Rattle.astc_model.specs.Footprints.{is_footprint}
use Rattle.astc_model.specs.Places.{Texel}
use Rattle.astc_model.specs.Reading.{read}
use Rattle.astc_model.specs.Shown.{shown}
use Rattle.astc_model.specs.Sums.{sum_to}
use Rattle.astc_model.proofs.SumLaws.{sum_to-zero, sum_to-more}
use Rattle.std.proofs.lemmas.List.FromFn.{fill_by_all}
use Rattle.astc_model.proofs.FootprintLaws.{IsSides, is_footprint-sides, column_below, row_below}
use Rattle.astc_rows.specs.declared.bands.CheckedRows.{CheckedRows}
use Rattle.astc_rows.specs.Bands.{AreCheckedRows, columns, covering, block_count}
use Rattle.astc_rows.specs.Showing.{AreShown, block_of, faults_in, place_of, texel_rows, texel_shown, with_texel}

-- the block of a column of texels is one of those that cover them
column_within : (width w x : ℕ) → 1 ≤ w → x < width → x / w < covering width w
column_within width w x some inside =
    let most : width + (w - 1) < covering width w * w + w = lt-div-mul-add (omega arith) in
    (div-lt_iff_lt-mul (omega arith)).1 (omega (arith, most))

-- a texel elsewhere stays
other_stays : (b : Bool) (at i : ℕ) (texel : Texel) (texels : List Texel) → (IsTrue b → i ≢ at)
    → slice_index_or (cond b (slice_set texels at texel) texels) i [] ≡ slice_index_or texels i []
other_stays true at i texel texels other = get_or-set_other texels at i texel [] (other refl)
other_stays false at i texel texels other = refl

count_stays : (b : Bool) (at : ℕ) (texel : Texel) (texels : List Texel)
    → length (cond b (slice_set texels at texel) texels) ≡ length texels
count_stays true at texel texels = length-set texels at texel
count_stays false at texel texels = refl

first_true : (a b : Bool) → IsTrue (a && b) → IsTrue a
first_true true b both = refl
first_true false b both = both

-- the texels at the places up to p of block k
pub record ArePut (w h : ℕ) (band : CheckedRows) (k p : ℕ)
    (block initial now : List Texel) : Type 0 where
  pub count : length now ≡ length initial
  pub own : (i : ℕ) → i < length initial → block_of w h band i ≡ k → place_of w h band i < p
      → slice_index_or now i [] ≡ slice_index_or block (place_of w h band i) []
  pub others : (i : ℕ) → (block_of w h band i ≡ k → ⊥) → slice_index_or now i []
      ≡ slice_index_or initial i []

pub put-none : (w h : ℕ) (band : CheckedRows) (k : ℕ) (block initial : List Texel)
    → ArePut w h band k 0 block initial initial
put-none w h band k block initial = record {
  count = refl;
  own = λ i there of_block less.
      absurd (omega (arith, less));
  others = λ i elsewhere. refl;
}

-- the texels of the first n blocks are in their places, and unreadable blocks are counted
pub record AreDrawn (w h : ℕ) (band : CheckedRows) (blocks : List (List ℕ)) (n : ℕ)
    (initial now : List Texel) (illegal : ℕ) : Type 0 where
  pub count : length now ≡ length initial
  pub shown_are : (i : ℕ) → i < length initial → block_of w h band i < n → slice_index_or now i []
      ≡ texel_shown w h band blocks i
  pub illegal_is : illegal ≡ sum_to (λ k. faults_in (read w h (slice_index_or blocks k []))) n
  pub few : illegal ≤ n

pub drawn-none : (w h : ℕ) (band : CheckedRows) (blocks : List (List ℕ)) (initial : List Texel)
    → AreDrawn w h band blocks 0 initial initial 0
drawn-none w h band blocks initial = record {
  count = refl;
  shown_are = λ i there less.
      absurd (omega (arith, less));
  illegal_is = sym (sum_to-zero _);
  few = omega arith;
}

module _ (w h : ℕ) (band : CheckedRows) (footprint : IsTrue (is_footprint w h))
    (numbers : AreCheckedRows h band) where
  sides : IsSides w h
  sides = is_footprint-sides w h footprint

  -- the place of a texel, by its block and its place in the block
  record LiesAt (i k p : ℕ) : Type 0 where
    column : i % band.width ≡ k % columns w band * w + p % w
    row : i / band.width ≡ k / columns w band * h + p / w

  lies_at : (i k p : ℕ) → block_of w h band i ≡ k → place_of w h band i ≡ p → LiesAt i k p
  lies_at i k p of_block at_place =
      let wide : 0 < w = omega (arith, sides.least_width) in
      let high : 0 < h = omega (arith, sides.least_height) in
      let x : ℕ = i % band.width in
      let y : ℕ = i / band.width in
      let inside : x < band.width = mod-lt i (omega (arith, numbers.width_some)) in
      let within : x / w < columns w band = column_within band.width w x (omega arith) inside in
      let left : k % columns w band ≡ x / w = ap (λ n. n % columns w band) (sym of_block)
      ∙ mod-mul-add (y / h) (columns w band) (x / w) within in
      let top : k / columns w band ≡ y / h = ap (λ n. n / columns w band) (sym of_block)
      ∙ div-mul-add (y / h) (columns w band) (x / w) within in
      let right : p % w ≡ x % w = ap (λ n. n % w) (sym at_place) ∙ mod-mul-add (y % h) w (x % w)
      (mod-lt x wide) in
      let down : p / w ≡ y % h = ap (λ n. n / w) (sym at_place) ∙ div-mul-add (y % h) w (x % w)
      (mod-lt x wide) in
      record {
        column = rw (left, right) (sym (div-add-mod' x w));
        row = rw (top, down) (sym (div-add-mod' y h));
      }

  -- and the other way round
  block_there : (k p x y : ℕ) → p < w * h → x ≡ k % columns w band * w + p % w → y
      ≡ k / columns w band * h + p / w → x < band.width
      → (block_of w h band (y * band.width + x) ≡ k) × (place_of w h band (y * band.width + x) ≡ p)
  block_there k p x y below column row inside =
      let right : p % w < w = column_below w h p footprint in
      let down : p / w < h = row_below w h p footprint below in
      let x_is : (y * band.width + x) % band.width ≡ x = mod-mul-add y band.width x inside in
      let y_is : (y * band.width + x) / band.width ≡ y = div-mul-add y band.width x inside in
      let column_is : x / w ≡ k % columns w band = ap (λ n. n / w) column
      ∙ div-mul-add (k % columns w band) w (p % w) right in
      let place_x : x % w ≡ p % w = ap (λ n. n % w) column ∙ mod-mul-add (k % columns w band) w
      (p % w) right in
      let row_is : y / h ≡ k / columns w band = ap (λ n. n / h) row
      ∙ div-mul-add (k / columns w band) h (p / w) down in
      let place_y : y % h ≡ p / w = ap (λ n. n % h) row ∙ mod-mul-add (k / columns w band) h
      (p / w) down in (
        rw (x_is, y_is, column_is, row_is) (div-add-mod' k (columns w band)),
        rw
            (x_is, y_is, place_x, place_y) (div-add-mod' p w),
      )

  -- one place more
  pub put-more : (k p x y rows : ℕ) (block initial now after : List Texel)
      → ArePut w h band k p block initial now → p < w * h → x ≡ k % columns w band * w + p % w → y
      ≡ k / columns w band * h + p / w
      → length initial ≡ rows * band.width → after ≡ with_texel rows band.width x y
      (slice_index_or block p []) now → ArePut w h band k (p + 1) block initial after
  put-more k p x y rows block initial now after so_far below column row full put =
      let test : Bool = nat_lt x band.width && nat_lt y rows in
      let at : ℕ = y * band.width + x in
      let texel : Texel = slice_index_or block p [] in
      let inside : IsTrue test → x < band.width = λ yes.
      ltb-true x band.width (first_true (nat_lt x band.width) (nat_lt y rows) yes) in
      record {
        count = ap length put ∙ count_stays test at texel now ∙ so_far.count;
        own = λ i there of_block less. elim (cases_lt (place_of w h band i) p) [
          | inl before ↦
              rw put (other_stays test at i texel now (λ yes same.
              let where_is = block_there k p x y below column row (inside yes) in
              let again : place_of w h band i ≡ p = ap (place_of w h band) same ∙ where_is.1 in
              omega (arith, again, before)) ∙ so_far.own i there of_block before)
          | inr past ↦
              let here : place_of w h band i ≡ p = omega (arith, less, past) in
              let lies : LiesAt i k p = lies_at i k p of_block here in
              let x_is : x ≡ i % band.width = column ∙ sym lies.column in
              let y_is : y ≡ i / band.width = row ∙ sym lies.row in
              let some : 0 < band.width = omega (arith, numbers.width_some) in
              let x_in : x < band.width = rw x_is (mod-lt i some) in
              let y_in : y < rows = rw y_is
              ((div-lt_iff_lt-mul some).1 (omega (arith, there, full))) in
              let at_is : at ≡ i = rw (x_is, y_is) (div-add-mod' i band.width) in
              let there_now : at < length now = omega (arith, at_is, there, so_far.count) in
              let now_is : after ≡ slice_set now at texel = put
              ∙ rw (lt-ltb x band.width x_in, lt-ltb y rows y_in) refl in
              rw (now_is, here) (ap (λ j. slice_index_or (slice_set now at texel) j []) (sym at_is)
              ∙ get_or-set_same now at texel [] there_now)
        ];
        others = λ i elsewhere.
            rw put (other_stays test at i texel now (λ yes same.
            let where_is = block_there k p x y below column row (inside yes) in
            elsewhere (ap (block_of w h band) same ∙ where_is.0)) ∙ so_far.others i elsewhere);
      }

  -- each texel of the rows lies in one of their blocks, at a place of it
  pub block_within : (i : ℕ) → i < texel_rows h band * band.width
      → block_of w h band i < block_count w band
  block_within i there =
      let some : 0 < band.width = omega (arith, numbers.width_some) in
      let high : 0 < h = omega (arith, sides.least_height) in
      let inside : i % band.width < band.width = mod-lt i some in
      let within : i % band.width / w < columns w band = column_within band.width w (i % band.width)
      (omega (arith, sides.least_width)) inside in
      let row : i / band.width < texel_rows h band =
      (div-lt_iff_lt-mul some).1 (omega (arith, there)) in
      let spread : (band.first + band.count) * h ≡ band.first * h + band.count * h = omega arith in
      let below : i / band.width / h < band.count =
      (div-lt_iff_lt-mul high).1 (omega (arith, row, spread)) in
      let commuted : columns w band * band.count ≡ band.count * columns w band = omega arith in
      omega (
        arith,
        mul-add-lt (i / band.width / h) (columns w band)
            (i % band.width / w) band.count below within,
        commuted,
      )

  pub place_within : (i : ℕ) → place_of w h band i < w * h
  place_within i =
      let wide : 0 < w = omega (arith, sides.least_width) in
      let high : 0 < h = omega (arith, sides.least_height) in
      omega (
        arith,
        mul-add-lt (i / band.width % h) w (i % band.width % w) h
            (mod-lt (i / band.width) high) (mod-lt (i % band.width) wide),
      )

  -- block n too, after its texels are put
  pub drawn-more : (n : ℕ) (blocks : List (List ℕ)) (block initial now after : List Texel)
      (illegal one : ℕ) → AreDrawn w h band blocks n initial now illegal
      → ((p : ℕ) → p < w * h → slice_index_or block p []
      ≡ shown w h band.flavour (slice_index_or blocks n []) (p % w) (p / w))
      → one ≡ faults_in (read w h (slice_index_or blocks n [])) → one ≤ 1
      → ((i : ℕ) → i < length now → block_of w h band i ≡ n → slice_index_or after i []
      ≡ slice_index_or block (place_of w h band i) [])
      → ((i : ℕ) → (block_of w h band i ≡ n → ⊥) → slice_index_or after i []
      ≡ slice_index_or now i []) → length after ≡ length now
      → AreDrawn w h band blocks (n + 1) initial after (illegal + one)
  drawn-more n blocks block initial now after illegal one so_far shows one_is one_most own others
      count = record {
        count = count ∙ so_far.count;
        shown_are = λ i there less. elim (cases_lt (block_of w h band i) n) [
          | inl before ↦ others i (λ same. omega (arith, same, before))
              ∙ so_far.shown_are i there before
          | inr past ↦
              let here : block_of w h band i ≡ n = omega (arith, less, past) in
              let right : i % band.width % w < w =
              mod-lt (i % band.width) (omega (arith, sides.least_width)) in
              rw here (own i (omega (arith, there, so_far.count)) here
              ∙ shows (place_of w h band i) (place_within i)
              ∙ ap (λ c. shown w h band.flavour (slice_index_or blocks n []) c
              (place_of w h band i / w))
              (mod-mul-add (i / band.width % h) w (i % band.width % w) right)
              ∙ ap (λ r. shown w h band.flavour (slice_index_or blocks n []) (i % band.width % w) r)
              (div-mul-add (i / band.width % h) w (i % band.width % w) right))
        ];
        illegal_is = ap (λ m. m + one) so_far.illegal_is
            ∙ ap (λ m. sum_to (λ k. faults_in (read w h (slice_index_or blocks k []))) n + m) one_is
            ∙ sym (sum_to-more (λ k. faults_in (read w h (slice_index_or blocks k []))) n);
        few = omega (arith, so_far.few, one_most);
      }

  -- all blocks
  pub drawn-all : (n : ℕ) (blocks : List (List ℕ)) (initial now : List Texel) (illegal : ℕ)
      → AreDrawn w h band blocks n initial now illegal → n ≡ block_count w band
      → length initial ≡ texel_rows h band * band.width → AreShown w h band blocks now illegal
  drawn-all n blocks initial now illegal are all full = record {
    texels_are = fill_by_all (texel_shown w h band blocks) now (texel_rows h band * band.width) []
        (are.count ∙ full)
        (λ i below. are.shown_are i (omega (arith, below, full))
        (omega (arith, block_within i below, all)));
    illegal_is = are.illegal_is
        ∙ ap (sum_to (λ k. faults_in (read w h (slice_index_or blocks k [])))) all;
  }
