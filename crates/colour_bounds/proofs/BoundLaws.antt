-- The endpoints of a partition as functions of one of its colour values.
use Rattle.std.proofs.Common.{◌≡◌, ◌≢◌, ◌⊎◌, ℕ, zero, suc, ◌+◌, ◌-◌, ◌*◌, ◌%◌, ◌<◌, ◌≤◌, Bool, true, false, cond, List, [], ◌∷◌, length, get_or, set, take, refl, sym, ap, subst, ◌∙◌, arith, inl, inr}
use Rattle.std.specs.Prelude.{nat_le, IsTrue}
use Rattle.std.proofs.lemmas.Bool.{cases_lt, cases_eq, le-leb, lt-leb, ne_eqb}
use Rattle.std.proofs.lemmas.List.{get_or-set_same, get_or-set_other, length-set}
use Rattle.std.proofs.Math.Seq.{take-set-lt}
use Rattle.astc_model.specs.Endpoints.{endpoint_colours, endpoint_integers}
use Rattle.colour_bounds.specs.Curves.{curve_more, curve_less, IsAffine, AreStraight}
use Rattle.error_tables.proofs.RowLaws.{two_colours, eight_entries}
use Rattle.std.proofs.Math.Nat.{mul-le-mul_left}
use Rattle.texel_error.specs.Shown.{Ends}
use Rattle.error_tables.specs.Floors.{form_more, form_less}
use Rattle.error_tables.specs.RowFloors.{AreForms}
use Rattle.error_tables.specs.declared.floors.PartitionFloor.{PartitionFloor}
use Rattle.error_tables.specs.declared.tables.Tables.{Tables}
use Rattle.colour_bounds.specs.declared.bounds.ValueBounds.{ValueBounds}
use Rattle.colour_bounds.specs.declared.part_scan.PartitionScan.{PartitionScan}
use Rattle.colour_bounds.specs.Bounds.{AreValueBounds, ends_of, in_order, first_sum, second_sum, order_by_sums, order_of}
use Rattle.colour_bounds.specs.OneChannel.{is_exchanging}

-- ---- the two colours in order are linear in the value

constant : (n : ℕ) → IsAffine (λ value. n)
constant n = record { start = n; step = 0; is = λ value. omega arith }

entry : (values : List ℕ) (place k : ℕ) → place < length values
    → IsAffine (λ value. get_or (set values place value) k 0)
entry values place k within =
    elim (cases_eq k place) [
      | inl same ↦ record {
        start = 0;
        step = 1;
        is = λ value.
            rw same (get_or-set_same values place value 0 within ∙ omega arith);
      }
      | inr other ↦ record {
        start = get_or values k 0;
        step = 0;
        is = λ value.
            get_or-set_other values place k value 0 other ∙ omega arith;
      }
    ]

module _ (values : List ℕ) (place : ℕ) (within : place < length values) where
  abbrev moving : ℕ → ℕ → List ℕ × List ℕ
  moving mode value = in_order mode (set values place value)

  abbrev own : (k : ℕ) → IsAffine (λ value. get_or (set values place value) k 0)
  own k = entry values place k within

  straight_luminance : AreStraight (moving 0)
  straight_luminance = record {
    first_red = own 0;
    first_green = own 0;
    first_blue = own 0;
    first_alpha = constant 255;
    second_red = own 1;
    second_green = own 1;
    second_blue = own 1;
    second_alpha = constant 255;
  }

  straight_luminance_alpha : AreStraight (moving 4)
  straight_luminance_alpha = record {
    first_red = own 0;
    first_green = own 0;
    first_blue = own 0;
    first_alpha = own 2;
    second_red = own 1;
    second_green = own 1;
    second_blue = own 1;
    second_alpha = own 3;
  }

  straight_rgba : AreStraight (moving 12)
  straight_rgba = record {
    first_red = own 0;
    first_green = own 2;
    first_blue = own 4;
    first_alpha = own 6;
    second_red = own 1;
    second_green = own 3;
    second_blue = own 5;
    second_alpha = own 7;
  }

  straight_rgb : AreStraight (moving 8)
  straight_rgb = record {
    first_red = own 0;
    first_green = own 2;
    first_blue = own 4;
    first_alpha = constant 255;
    second_red = own 1;
    second_green = own 3;
    second_blue = own 5;
    second_alpha = constant 255;
  }

  pub straight : (mode : ℕ) → AreStraight (λ value. in_order mode (set values place value))
  straight mode =
      elim (cases_eq mode 0) [
        | inl is ↦ rw is straight_luminance
        | inr not_zero ↦ elim (cases_eq mode 4) [
          | inl is ↦ rw is straight_luminance_alpha
          | inr not_four ↦ elim (cases_eq mode 12) [
            | inl is ↦ rw is straight_rgba
            | inr not_twelve ↦ rw (
              ne_eqb mode 0 not_zero,
              ne_eqb mode 4 not_four,
              ne_eqb mode 12
                  not_twelve,
            ) straight_rgb
          ]
        ]
      ]

-- ---- the two colours in order are the endpoints while the second has at least the sum of the
-- first

module _ (a b c d e g h i : ℕ) where
  abbrev listed : List ℕ
  listed = a ∷ b ∷ c ∷ d ∷ e ∷ g ∷ h ∷ i ∷ []

  ordered_rgb : first_sum listed ≤ second_sum listed → endpoint_colours 8 (take 6 listed)
      ≡ in_order 8 listed
  unfolding endpoint_colours
  ordered_rgb rise = rw (le-leb (a + c + e) (b + d + g) rise) refl

  ordered_rgba : first_sum listed ≤ second_sum listed → endpoint_colours 12 (take 8 listed)
      ≡ in_order 12 listed
  unfolding endpoint_colours
  ordered_rgba rise = rw (le-leb (a + c + e) (b + d + g) rise) refl

  ordered_luminance : endpoint_colours 0 (take 2 listed) ≡ in_order 0 listed
  unfolding endpoint_colours
  ordered_luminance = refl

  ordered_luminance_alpha : endpoint_colours 4 (take 4 listed) ≡ in_order 4 listed
  unfolding endpoint_colours
  ordered_luminance_alpha = refl

-- If the colours are exchanged, the contracted second colour stays the first endpoint while the
-- first colour grows, and the contracted first colour stays the second endpoint while the second
-- colour decreases.
first_stays : (v0 v1 v2 v3 v4 v5 a b t0 t2 t4 ta : ℕ) → v1 + v3 + v5 < v0 + v2 + v4
    → v0 + v2 + v4 ≤ t0 + t2 + t4
    → (two_colours v0 v1 v2 v3 v4 v5 a b).0 ≡ (two_colours t0 v1 t2 v3 t4 v5 ta b).0
first_stays v0 v1 v2 v3 v4 v5 a b t0 t2 t4 ta fall more =
    rw (
      lt-leb (v0 + v2 + v4) (v1 + v3 + v5) fall,
      lt-leb (t0 + t2 + t4) (v1 + v3 + v5)
          (omega arith),
    ) refl

second_stays : (v0 v1 v2 v3 v4 v5 a b z1 z3 z5 zb : ℕ) → v1 + v3 + v5 < v0 + v2 + v4
    → z1 + z3 + z5 ≤ v1 + v3 + v5
    → (two_colours v0 v1 v2 v3 v4 v5 a b).1 ≡ (two_colours v0 z1 v2 z3 v4 z5 a zb).1
second_stays v0 v1 v2 v3 v4 v5 a b z1 z3 z5 zb fall less =
    rw (
      lt-leb (v0 + v2 + v4) (v1 + v3 + v5) fall,
      lt-leb (v0 + v2 + v4) (z1 + z3 + z5)
          (omega arith),
    ) refl

-- the endpoints by the place of the value
module _ (a b c d e g h i u : ℕ) where
  abbrev eight : List ℕ
  eight = a ∷ b ∷ c ∷ d ∷ e ∷ g ∷ h ∷ i ∷ []

  abbrev order_bounds : ℕ → ℕ × ℕ
  order_bounds place = order_by_sums place (first_sum (set eight place 0))
      (second_sum (set eight place 0))

  abbrev Rises : ℕ → Type 0
  Rises place = first_sum (set eight place u) ≤ second_sum (set eight place u)

  abbrev Falls : ℕ → Type 0
  Falls place = second_sum (set eight place u) < first_sum (set eight place u)

  abbrev alpha_bounds : ℕ × ℕ
  alpha_bounds = cond (nat_le (a + c + e) (b + d + g)) (0, 256) (0, 0)

  alpha_rises : u < alpha_bounds.1 → a + c + e ≤ b + d + g
  alpha_rises below =
      elim (cases_lt (b + d + g) (a + c + e)) [
        | inl fall ↦ let no : u < 0 = rw (lt-leb (a + c + e) (b + d + g) fall) at below in
            absurd (omega (arith, no))
        | inr rise ↦ rise
      ]

  rises_at : (place : ℕ) → place < 8 → (order_bounds place).0 ≤ u → u < (order_bounds place).1
      → Rises place
  rises_at zero within above below = omega (arith, above, below)
  rises_at (suc zero) within above below = omega (arith, above, below)
  rises_at (suc (suc zero)) within above below = omega (arith, above, below)
  rises_at (suc (suc (suc zero))) within above below = omega (arith, above, below)
  rises_at (suc (suc (suc (suc zero)))) within above below = omega (arith, above, below)
  rises_at (suc (suc (suc (suc (suc zero))))) within above below = omega (arith, above, below)
  rises_at (suc (suc (suc (suc (suc (suc zero)))))) within above below = alpha_rises below
  rises_at (suc (suc (suc (suc (suc (suc (suc zero))))))) within above below = alpha_rises below
  rises_at (suc (suc (suc (suc (suc (suc (suc (suc k)))))))) within above below =
      absurd (omega arith)

  alpha_falls : u ≤ 255 → (u < alpha_bounds.0) ⊎ (alpha_bounds.1 ≤ u) → b + d + g < a + c + e
  alpha_falls small out =
      elim (cases_lt (b + d + g) (a + c + e)) [
        | inl fall ↦ fall
        | inr rise ↦
            let no : (u < 0) ⊎ (256 ≤ u) = rw (le-leb (a + c + e) (b + d + g) rise) at out in
            elim no [
              | inl low ↦ absurd (omega (arith, low))
              | inr high ↦ absurd (omega (arith, high, small))
            ]
      ]

  -- consequences for a value outside the range, in plain numbers
  by_first : (rest second : ℕ) → (u < 0) ⊎ (second + 1 - rest ≤ u) → second < u + rest
  by_first rest second out = elim out [
    | inl low ↦ absurd (omega (arith, low))
    | inr high ↦ omega (arith, high)
  ]

  by_second : (first rest : ℕ) → u ≤ 255 → (u < first - rest) ⊎ (256 ≤ u) → rest + u < first
  by_second first rest small out = elim out [
    | inl low ↦ omega (arith, low)
    | inr high ↦ absurd (omega (arith, high, small))
  ]

  falls_at : (place : ℕ) → place < 8 → u ≤ 255 → (u < (order_bounds place).0)
      ⊎ ((order_bounds place).1 ≤ u) → Falls place
  falls_at zero within small out = let h = by_first (0 + c + e) (b + d + g) out in omega (arith, h)
  falls_at (suc zero) within small out = let h = by_second (a + c + e) (0 + d + g) small out in
      omega (arith, h)
  falls_at (suc (suc zero)) within small out = let h = by_first (a + 0 + e) (b + d + g) out in
      omega (arith, h)
  falls_at (suc (suc (suc zero))) within small out = let h =
      by_second (a + c + e) (b + 0 + g) small out in omega (arith, h)
  falls_at (suc (suc (suc (suc zero)))) within small out = let h =
      by_first (a + c + 0) (b + d + g) out in omega (arith, h)
  falls_at (suc (suc (suc (suc (suc zero))))) within small out = let h =
      by_second (a + c + e) (b + d + 0) small out in omega (arith, h)
  falls_at (suc (suc (suc (suc (suc (suc zero)))))) within small out = alpha_falls small out
  falls_at (suc (suc (suc (suc (suc (suc (suc zero))))))) within small out = alpha_falls small out
  falls_at (suc (suc (suc (suc (suc (suc (suc (suc k)))))))) within small out = absurd (omega arith)

  first_rgb : (place : ℕ) → place < 6 → place % 2 ≡ 0 → u ≤ 255 → Falls place
      → (ends_of 8 eight place u).0 ≡ (ends_of 8 eight place 255).0
  unfolding endpoint_colours
  first_rgb zero within even small fall = first_stays u b c d e g 255 255 255 c e 255 fall
      (omega arith)
  first_rgb (suc zero) within even small fall = absurd (omega arith)
  first_rgb (suc (suc zero)) within even small fall =
      first_stays a b u d e g 255 255 a 255 e 255 fall (omega arith)
  first_rgb (suc (suc (suc zero))) within even small fall = absurd (omega arith)
  first_rgb (suc (suc (suc (suc zero)))) within even small fall =
      first_stays a b c d u g 255 255 a c 255 255 fall (omega arith)
  first_rgb (suc (suc (suc (suc (suc zero))))) within even small fall = absurd (omega arith)
  first_rgb (suc (suc (suc (suc (suc (suc k)))))) within even small fall = absurd (omega arith)

  second_rgb : (place : ℕ) → place < 6 → place % 2 ≢ 0 → Falls place → (ends_of 8 eight place u).1
      ≡ (ends_of 8 eight place 0).1
  unfolding endpoint_colours
  second_rgb zero within odd fall = absurd (odd refl)
  second_rgb (suc zero) within odd fall = second_stays a u c d e g 255 255 0 d g 255 fall
      (omega arith)
  second_rgb (suc (suc zero)) within odd fall = absurd (odd refl)
  second_rgb (suc (suc (suc zero))) within odd fall =
      second_stays a b c u e g 255 255 b 0 g 255 fall (omega arith)
  second_rgb (suc (suc (suc (suc zero)))) within odd fall = absurd (odd refl)
  second_rgb (suc (suc (suc (suc (suc zero))))) within odd fall =
      second_stays a b c d e u 255 255 b d 0 255 fall (omega arith)
  second_rgb (suc (suc (suc (suc (suc (suc k)))))) within odd fall = absurd (omega arith)

  first_rgba : (place : ℕ) → place < 8 → place % 2 ≡ 0 → u ≤ 255 → Falls place
      → (ends_of 12 eight place u).0 ≡ (ends_of 12 eight place 255).0
  unfolding endpoint_colours
  first_rgba zero within even small fall = first_stays u b c d e g h i 255 c e h fall (omega arith)
  first_rgba (suc zero) within even small fall = absurd (omega arith)
  first_rgba (suc (suc zero)) within even small fall = first_stays a b u d e g h i a 255 e h fall
      (omega arith)
  first_rgba (suc (suc (suc zero))) within even small fall = absurd (omega arith)
  first_rgba (suc (suc (suc (suc zero)))) within even small fall =
      first_stays a b c d u g h i a c 255 h fall (omega arith)
  first_rgba (suc (suc (suc (suc (suc zero))))) within even small fall = absurd (omega arith)
  first_rgba (suc (suc (suc (suc (suc (suc zero)))))) within even small fall =
      first_stays a b c d e g u i a c e 255 fall (omega arith)
  first_rgba (suc (suc (suc (suc (suc (suc (suc zero))))))) within even small fall =
      absurd (omega arith)
  first_rgba (suc (suc (suc (suc (suc (suc (suc (suc k)))))))) within even small fall =
      absurd (omega arith)

  second_rgba : (place : ℕ) → place < 8 → place % 2 ≢ 0 → Falls place → (ends_of 12 eight place u).1
      ≡ (ends_of 12 eight place 0).1
  unfolding endpoint_colours
  second_rgba zero within odd fall = absurd (odd refl)
  second_rgba (suc zero) within odd fall = second_stays a u c d e g h i 0 d g i fall (omega arith)
  second_rgba (suc (suc zero)) within odd fall = absurd (odd refl)
  second_rgba (suc (suc (suc zero))) within odd fall = second_stays a b c u e g h i b 0 g i fall
      (omega arith)
  second_rgba (suc (suc (suc (suc zero)))) within odd fall = absurd (odd refl)
  second_rgba (suc (suc (suc (suc (suc zero))))) within odd fall =
      second_stays a b c d e u h i b d 0 i fall (omega arith)
  second_rgba (suc (suc (suc (suc (suc (suc zero)))))) within odd fall = absurd (odd refl)
  second_rgba (suc (suc (suc (suc (suc (suc (suc zero))))))) within odd fall =
      second_stays a b c d e g h u b d g 0 fall (omega arith)
  second_rgba (suc (suc (suc (suc (suc (suc (suc (suc k)))))))) within odd fall =
      absurd (omega arith)

-- ---- any eight values

no_mode : (mode place : ℕ) → mode ≢ 8 → mode ≢ 12 → IsTrue (is_exchanging mode) → (A : Type 0) → A
no_mode mode place not_eight not_twelve on A = let no : false ≡ true =
    rw (ne_eqb mode 8 not_eight, ne_eqb mode 12 not_twelve) at on in absurd (cc)

module _ (values : List ℕ) (place : ℕ) (all : length values ≡ 8) where
  abbrev v : ℕ → ℕ
  v k = get_or values k 0

  abbrev entries : List ℕ
  entries = v 0 ∷ v 1 ∷ v 2 ∷ v 3 ∷ v 4 ∷ v 5 ∷ v 6 ∷ v 7 ∷ []

  same_entries : entries ≡ values
  same_entries = sym (eight_entries values all)

  -- the second colour has at least the sum of the first exactly within the range of values
  pub rises : (u : ℕ) → place < 8
      → (order_by_sums place (first_sum (set values place 0)) (second_sum (set values place 0))).0
      ≤ u
      → u < (order_by_sums place (first_sum (set values place 0))
      (second_sum (set values place 0))).1 → first_sum (set values place u) ≤ second_sum
      (set values place u)
  rises u =
      subst (λ xs. place < 8 → (order_by_sums place (first_sum (set xs place 0))
      (second_sum (set xs place 0))).0 ≤ u
      → u < (order_by_sums place (first_sum (set xs place 0)) (second_sum (set xs place 0))).1
      → first_sum (set xs place u) ≤ second_sum (set xs place u))
      same_entries (rises_at (v 0) (v 1) (v 2) (v 3) (v 4) (v 5) (v 6) (v 7) u place)

  pub falls : (u : ℕ) → place < 8 → u ≤ 255
      → (u < (order_by_sums place (first_sum (set values place 0))
      (second_sum (set values place 0))).0)
      ⊎ ((order_by_sums place (first_sum (set values place 0))
      (second_sum (set values place 0))).1 ≤ u)
      → second_sum (set values place u) < first_sum (set values place u)
  falls u =
      subst (λ xs. place < 8 → u ≤ 255
      → (u < (order_by_sums place (first_sum (set xs place 0)) (second_sum (set xs place 0))).0)
      ⊎ ((order_by_sums place (first_sum (set xs place 0)) (second_sum (set xs place 0))).1 ≤ u)
      → second_sum (set xs place u) < first_sum (set xs place u))
      same_entries (falls_at (v 0) (v 1) (v 2) (v 3) (v 4) (v 5) (v 6) (v 7) u place)

  -- if the colours are exchanged, one endpoint is the same for all values at a place
  pub first_end_stays : (mode u : ℕ) → IsTrue (is_exchanging mode) → place < endpoint_integers mode
      → place % 2 ≡ 0 → u ≤ 255
      → second_sum (set values place u) < first_sum (set values place u)
      → (ends_of mode values place u).0 ≡ (ends_of mode values place 255).0
  first_end_stays mode u on =
      subst (λ xs. place < endpoint_integers mode → place % 2 ≡ 0 → u ≤ 255
      → second_sum (set xs place u) < first_sum (set xs place u)
      → (ends_of mode xs place u).0 ≡ (ends_of mode xs place 255).0)
      same_entries
      (elim (cases_eq mode 8) [
        | inl is ↦ rw is (first_rgb (v 0) (v 1) (v 2) (v 3) (v 4) (v 5) (v 6) (v 7) u place)
        | inr not_eight ↦ elim (cases_eq mode 12) [
          | inl is ↦ rw is (first_rgba (v 0) (v 1) (v 2) (v 3) (v 4) (v 5) (v 6) (v 7) u place)
          | inr not_twelve ↦ no_mode mode place not_eight not_twelve on _
        ]
      ])

  pub second_end_stays : (mode u : ℕ) → IsTrue (is_exchanging mode) → place < endpoint_integers mode
      → place % 2 ≢ 0
      → second_sum (set values place u) < first_sum (set values place u)
      → (ends_of mode values place u).1 ≡ (ends_of mode values place 0).1
  second_end_stays mode u on =
      subst (λ xs. place < endpoint_integers mode → place % 2 ≢ 0
      → second_sum (set xs place u) < first_sum (set xs place u)
      → (ends_of mode xs place u).1 ≡ (ends_of mode xs place 0).1)
      same_entries
      (elim (cases_eq mode 8) [
        | inl is ↦ rw is (second_rgb (v 0) (v 1) (v 2) (v 3) (v 4) (v 5) (v 6) (v 7) u place)
        | inr not_eight ↦ elim (cases_eq mode 12) [
          | inl is ↦ rw is (second_rgba (v 0) (v 1) (v 2) (v 3) (v 4) (v 5) (v 6) (v 7) u place)
          | inr not_twelve ↦ no_mode mode place not_eight not_twelve on _
        ]
      ])

-- if the colours are not exchanged, they are the endpoints
module _ (xs : List ℕ) (all : length xs ≡ 8) where
  abbrev x : ℕ → ℕ
  x k = get_or xs k 0

  same_list : x 0 ∷ x 1 ∷ x 2 ∷ x 3 ∷ x 4 ∷ x 5 ∷ x 6 ∷ x 7 ∷ [] ≡ xs
  same_list = sym (eight_entries xs all)

  ordered_zero : endpoint_colours 0 (take 2 xs) ≡ in_order 0 xs
  ordered_zero = subst (λ l. endpoint_colours 0 (take 2 l) ≡ in_order 0 l) same_list
      (ordered_luminance (x 0) (x 1) (x 2) (x 3) (x 4) (x 5) (x 6) (x 7))

  ordered_four : endpoint_colours 4 (take 4 xs) ≡ in_order 4 xs
  ordered_four = subst (λ l. endpoint_colours 4 (take 4 l) ≡ in_order 4 l) same_list
      (ordered_luminance_alpha (x 0) (x 1) (x 2) (x 3) (x 4) (x 5) (x 6) (x 7))

  pub ordered_exchanging : (mode : ℕ) → IsTrue (is_exchanging mode) → first_sum xs ≤ second_sum xs
      → endpoint_colours mode (take (endpoint_integers mode) xs) ≡ in_order mode xs
  ordered_exchanging mode on =
      subst (λ l. first_sum l ≤ second_sum l
      → endpoint_colours mode (take (endpoint_integers mode) l) ≡ in_order mode l) same_list
      (elim (cases_eq mode 8) [
        | inl is ↦ rw is (ordered_rgb (x 0) (x 1) (x 2) (x 3) (x 4) (x 5) (x 6) (x 7))
        | inr not_eight ↦ elim (cases_eq mode 12) [
          | inl is ↦ rw is (ordered_rgba (x 0) (x 1) (x 2) (x 3) (x 4) (x 5) (x 6) (x 7))
          | inr not_twelve ↦ no_mode mode 0 not_eight not_twelve on _
        ]
      ])

module _ (mode place : ℕ) (values : List ℕ) (all : length values ≡ 8)
    (within : place < endpoint_integers mode) where
  replaced : (u : ℕ) → ends_of mode values place u
      ≡ endpoint_colours mode (take (endpoint_integers mode) (set values place u))
  replaced u = ap (endpoint_colours mode)
      (sym (take-set-lt (endpoint_integers mode) values place u within))

  still_eight : (u : ℕ) → length (set values place u) ≡ 8
  still_eight u = length-set values place u ∙ all

  -- the range of values of an endpoint mode
  abbrev bounds_if : Bool → ℕ × ℕ
  bounds_if b = cond b (order_by_sums place (first_sum (set values place 0))
      (second_sum (set values place 0))) (0, 0)

  by_mode : mode ≢ 0 → mode ≢ 4 → order_of mode values place ≡ bounds_if (is_exchanging mode)
  by_mode not_zero not_four = rw (ne_eqb mode 0 not_zero, ne_eqb mode 4 not_four) refl

  pub ordered : (u : ℕ) → place < 8 → (order_of mode values place).0 ≤ u
      → u < (order_of mode values place).1 → ends_of mode values place u
      ≡ in_order mode (set values place u)
  ordered u small =
      elim (cases_eq mode 0) [
        | inl is ↦ λ above below. replaced u
            ∙ rw is (ordered_zero (set values place u) (still_eight u))
        | inr not_zero ↦ elim (cases_eq mode 4) [
          | inl is ↦ λ above below. replaced u
              ∙ rw is (ordered_four (set values place u) (still_eight u))
          | inr not_four ↦ λ above below.
              by_sums (is_exchanging mode) refl
              (subst (λ (b : ℕ × ℕ). b.0 ≤ u) (by_mode not_zero not_four) above)
              (subst (λ (b : ℕ × ℕ). u < b.1) (by_mode not_zero not_four) below)
        ]
      ]
    where
      by_sums : (b : Bool) → is_exchanging mode ≡ b → (bounds_if b).0 ≤ u → u < (bounds_if b).1
          → ends_of mode values place u ≡ in_order mode (set values place u)
      by_sums true on above below =
          replaced u ∙ ordered_exchanging (set values place u) (still_eight u) mode on
          (rises values place all u small above below)
      by_sums false off above below = absurd (omega (arith, below))

  pub out_of_order : (u : ℕ) → place < 8 → u ≤ 255 → IsTrue (is_exchanging mode)
      → (u < (order_of mode values place).0) ⊎ ((order_of mode values place).1 ≤ u)
      → second_sum (set values place u) < first_sum (set values place u)
  out_of_order u small byte on =
      elim (cases_eq mode 8) [
        | inl is ↦ λ out. falls values place all u small byte (rw is at out)
        | inr not_eight ↦ elim (cases_eq mode 12) [
          | inl is ↦ λ out. falls values place all u small byte (rw is at out)
          | inr not_twelve ↦ no_mode mode 0 not_eight not_twelve on _
        ]
      ]

-- ---- consequences of value bounds

pub small_place : (mode place : ℕ) → mode < 16 → place < endpoint_integers mode → place < 8
small_place mode place small within = omega arith

-- forms are at least 0
pub above_nothing : (tables : Tables) (floor : PartitionFloor) (ends : Ends)
    → AreForms tables floor ends → form_less tables floor ends + 0 ≤ form_more tables floor ends
above_nothing tables floor ends forms =
    four (get_or tables.weights 0 0) (get_or tables.weights 1 0) (get_or tables.weights 2 0)
    (get_or tables.weights 3 0) _ _ _ _ _ _ _ _
    forms.red_form forms.green_form forms.blue_form forms.alpha_form
  where
    four : (g h i j less_a less_b less_c less_d more_a more_b more_c more_d : ℕ) → less_a ≤ more_a
        → less_b ≤ more_b → less_c ≤ more_c → less_d ≤ more_d
        → g * less_a + h * less_b + i * less_c + j * less_d + 0 ≤ g * more_a + h * more_b + i
        * more_c + j * more_d
    four g h i j less_a less_b less_c less_d more_a more_b more_c more_d a b c d =
        omega (
          arith,
          mul-le-mul_left g a,
          mul-le-mul_left h b,
          mul-le-mul_left i c,
          mul-le-mul_left
              j d,
        )

pub far_by_bounds : (scan : PartitionScan) (place value most : ℕ) (bounds : ValueBounds)
    → AreValueBounds scan place bounds → value ≤ 255
    → (bounds.from ≤ value → value < bounds.before
    → curve_less bounds.curve value + most ≤ curve_more bounds.curve value)
    → ((value < bounds.from) ⊎ (bounds.before ≤ value) → most ≤ bounds.least)
    → AreForms scan.tables.now scan.floor (ends_of scan.cem scan.values place value)
    → form_less scan.tables.now scan.floor
    (ends_of scan.cem scan.values place value) + most ≤ form_more scan.tables.now scan.floor
    (ends_of scan.cem scan.values place value)
far_by_bounds scan place value most bounds are small on off forms =
    elim (cases_lt value bounds.from) [
      | inl low ↦ out (inl low)
      | inr above ↦ elim (cases_lt value bounds.before) [
        | inl below ↦ let here = are.on value above below in rw (here.more_is, here.less_is)
            (on above below)
        | inr high ↦ out (inr high)
      ]
    ]
  where
    further : (less least more : ℕ) → most ≤ least → less + least ≤ more → less + most ≤ more
    further less least more far floor = omega arith

    out : (value < bounds.from) ⊎ (bounds.before ≤ value)
        → form_less scan.tables.now scan.floor
        (ends_of scan.cem scan.values place value) + most ≤ form_more scan.tables.now scan.floor
        (ends_of scan.cem scan.values place value)
    out side = further _ bounds.least _ (off side) (are.off value small side forms)
