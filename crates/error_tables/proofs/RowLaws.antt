-- The least form over all ends of which one is given; the modes of which one end is given by the
-- first value of a pair.
use Rattle.std.proofs.Common.{◌≡◌, ◌≢◌, ◌⊎◌, ◌/◌, ℕ, zero, suc, ◌+◌, ◌-◌, ◌*◌, ◌<◌, ◌≤◌, true, false, cond, List, [], ◌∷◌, length, get_or, refl, sym, subst, arith, inl, inr}
use Rattle.std.specs.Prelude.{nat_le, IsTrue, pos}
use Rattle.std.proofs.lemmas.Bool.{cases_lt, cases_eq, le-leb, lt-leb, eqb-true, ne_eqb}
use Rattle.std.proofs.Math.Nat.{mul-le-mul_left, le-div_iff_mul-le}
use Rattle.astc_model.specs.Errors.{squared_difference}
use Rattle.astc_model.specs.Endpoints.{endpoint_colours, blue_contract}
use Rattle.moments.specs.Floors.{more_of, less_of}
use Rattle.moments.specs.declared.Moments.{Moments}
use Rattle.moments.proofs.MeanSquareLaws.{square_law}
use Rattle.texel_error.specs.Shown.{Ends}
use Rattle.error_tables.specs.Floors.{form_more, form_less}
use Rattle.error_tables.specs.RowFloors.{plus_at, minus_at, IsEndFar, pair_ends_of, has_rows, swapped, swapped_floor, IsForm, AreForms}
use Rattle.error_tables.specs.declared.floors.PartitionFloor.{PartitionFloor}
use Rattle.error_tables.specs.declared.tables.Tables.{Tables}

-- ---- the least form

-- completed to a square
completed : (m : Moments) (x y : ℕ) → m.second_squares * more_of m x y + minus_at m x
    ≡ m.second_squares * less_of m x y + plus_at m x + squared_difference
    (m.second_squares * y + m.products * x) m.second_targets
completed m x y = plain m.first_squares m.products m.second_squares m.first_targets m.second_targets
    m.target_squares _ (square_law (m.second_squares * y + m.products * x) m.second_targets)
  where
    plain : (uu uw ww uz wz zz q : ℕ) → q + 2 * ((ww * y + uw * x) * wz)
        ≡ (ww * y + uw * x) * (ww * y + uw * x) + wz * wz
        → ww * (x * x * uu + 2 * (x * y * uw) + y * y * ww + zz)
        + (ww * (2 * (x * uz)) + (uw * x) * (uw * x) + wz * wz)
        ≡ ww * (2 * (x * uz + y * wz)) + (ww * (x * x * uu + zz) + 2 * (uw * (x * wz))) + q
    plain uu uw ww uz wz zz q law = omega arith

-- if the least form over all second ends reaches a number, each form does
pub end_law : (m : Moments) (x y most : ℕ) → m.second_squares ≢ 0 → IsEndFar m x most
    → less_of m x y + most ≤ more_of m x y
end_law m x y most some far = plain m.second_squares (more_of m x y) (less_of m x y) (plus_at m x)
    (minus_at m x) _ some (completed m x y) far
  where
    plain : (ww more less plus minus q : ℕ) → ww ≢ 0 → ww * more + minus ≡ ww * less + plus + q
        → minus + ww * most ≤ plus → less + most ≤ more
    plain zero more less plus minus q some whole far = absurd (some refl)
    plain (suc w) more less plus minus q some whole far =
        elim (cases_lt more (less + most)) [
          | inl over ↦
              let scaled : suc w * suc more ≤ suc w * (less + most) =
              mul-le-mul_left (suc w) over in
              absurd (omega arith)
          | inr within ↦ within
        ]

pub least_law : (m : Moments) (x y r : ℕ) → m.second_squares ≢ 0
    → r * m.second_squares ≤ plus_at m x - minus_at m x → less_of m x y ≤ more_of m x y
    → less_of m x y + r ≤ more_of m x y
least_law m x y r some small form = plain m.second_squares (more_of m x y) (less_of m x y)
    (plus_at m x) (minus_at m x) _ some (completed m x y) small form
  where
    plain : (ww more less plus minus q : ℕ) → ww ≢ 0 → ww * more + minus ≡ ww * less + plus + q
        → r * ww ≤ plus - minus → less ≤ more → less + r ≤ more
    plain zero more less plus minus q some whole small form = absurd (some refl)
    plain (suc w) more less plus minus q some whole small form =
        elim (cases_lt more (less + r)) [
          | inl over ↦
              let scaled : suc w * suc more ≤ suc w * (less + r) = mul-le-mul_left (suc w) over in
              absurd (omega arith)
          | inr within ↦ within
        ]

positive : (n : ℕ) → n ≢ 0 → 0 < n
positive zero some = absurd (some refl)
positive (suc n) some = omega arith

pub divided : (r y k : ℕ) → k ≢ 0 → r ≤ y / k → r * k ≤ y
divided r y k some least = (le-div_iff_mul-le (positive k some)).0 least

-- ---- the ends of a row

abbrev pub two_colours : (v0 v1 v2 v3 v4 v5 a b : ℕ) → List ℕ × List ℕ
two_colours v0 v1 v2 v3 v4 v5 a b =
    cond (nat_le (v0 + v2 + v4) (v1 + v3 + v5)) (v0 ∷ v2 ∷ v4 ∷ a ∷ [], v1 ∷ v3 ∷ v5 ∷ b ∷ []) (
      blue_contract (pos v1) (pos v3) (pos v5) (pos b),
      blue_contract (pos v0) (pos v2) (pos v4)
          (pos a),
    )

-- of two given colours the first is one end, or contracted the other
direct_row : (v0 v2 v4 a v1 v3 v5 b t1 t3 t5 tb z1 z3 z5 zb : ℕ) → v1 + v3 + v5 ≤ t1 + t3 + t5
    → z1 + z3 + z5 ≤ v1 + v3 + v5
    → ((two_colours v0 v1 v2 v3 v4 v5 a b).0 ≡ (two_colours v0 t1 v2 t3 v4 t5 a tb).0)
    ⊎ ((two_colours v0 v1 v2 v3 v4 v5 a b).1 ≡ (two_colours v0 z1 v2 z3 v4 z5 a zb).1)
direct_row v0 v2 v4 a v1 v3 v5 b t1 t3 t5 tb z1 z3 z5 zb above below =
    elim (cases_lt (v1 + v3 + v5) (v0 + v2 + v4)) [
      | inl less ↦ inr (rw (
        lt-leb (v0 + v2 + v4) (v1 + v3 + v5) less,
        lt-leb (v0 + v2 + v4)
            (z1 + z3 + z5) (omega arith),
      ) refl)
      | inr more ↦ inl (rw (
        le-leb (v0 + v2 + v4) (v1 + v3 + v5) more,
        le-leb (v0 + v2 + v4)
            (t1 + t3 + t5) (omega arith),
      ) refl)
    ]

-- the row of a first value: for each second value the first end is that of the greatest value, or
-- the second end that of 0
abbrev pub IsRow : (mode : ℕ) → List ℕ → (k f u : ℕ) → Type 0
IsRow mode values k f u =
    ((pair_ends_of mode values k f u).0 ≡ (pair_ends_of mode values k f 255).0)
    ⊎ ((pair_ends_of mode values k f u).1 ≡ (pair_ends_of mode values k f 0).1)

module _ (f u : ℕ) (small : u ≤ 255) (a b c d e g h i : ℕ) where
  abbrev values : List ℕ
  values = a ∷ b ∷ c ∷ d ∷ e ∷ g ∷ h ∷ i ∷ []

  rows_luminance : (k : ℕ) → k < 1 → IsRow 0 values k f u
  unfolding endpoint_colours
  rows_luminance zero within = inl refl
  rows_luminance (suc k) within = absurd (omega arith)

  rows_luminance_alpha : (k : ℕ) → k < 2 → IsRow 4 values k f u
  unfolding endpoint_colours
  rows_luminance_alpha zero within = inl refl
  rows_luminance_alpha (suc zero) within = inl refl
  rows_luminance_alpha (suc (suc k)) within = absurd (omega arith)

  rows_rgb : (k : ℕ) → k < 3 → IsRow 8 values k f u
  unfolding endpoint_colours
  rows_rgb zero within = direct_row f c e 255 u d g 255 255 d g 255 0 d g 255 (omega arith)
      (omega arith)
  rows_rgb (suc zero) within = direct_row a f e 255 b u g 255 b 255 g 255 b 0 g 255 (omega arith)
      (omega arith)
  rows_rgb (suc (suc zero)) within = direct_row a c f 255 b d u 255 b d 255 255 b d 0 255
      (omega arith) (omega arith)
  rows_rgb (suc (suc (suc k))) within = absurd (omega arith)

  rows_scale : (k : ℕ) → k ≡ 2 → IsRow 10 values k f u
  unfolding endpoint_colours
  rows_scale zero is = absurd (omega arith)
  rows_scale (suc zero) is = absurd (omega arith)
  rows_scale (suc (suc zero)) is = inl refl
  rows_scale (suc (suc (suc k))) is = absurd (omega arith)

  rows_rgba : (k : ℕ) → k < 4 → IsRow 12 values k f u
  unfolding endpoint_colours
  rows_rgba zero within = direct_row f c e h u d g i 255 d g i 0 d g i (omega arith) (omega arith)
  rows_rgba (suc zero) within = direct_row a f e h b u g i b 255 g i b 0 g i (omega arith)
      (omega arith)
  rows_rgba (suc (suc zero)) within = direct_row a c f h b d u i b d 255 i b d 0 i (omega arith)
      (omega arith)
  rows_rgba (suc (suc (suc zero))) within = direct_row a c e f b d g u b d g 255 b d g 0
      (omega arith) (omega arith)
  rows_rgba (suc (suc (suc (suc k)))) within = absurd (omega arith)

  rows_of_mode : (mode k : ℕ) → IsTrue (has_rows mode k) → k < mode / 4 + 1
      → IsRow mode values k f u
  rows_of_mode mode k on within =
      elim (cases_eq mode 0) [
        | inl is ↦ rw is (rows_luminance k (omega (arith, within, is)))
        | inr not_zero ↦ elim (cases_eq mode 4) [
          | inl is ↦ rw is (rows_luminance_alpha k (omega (arith, within, is)))
          | inr not_four ↦ elim (cases_eq mode 8) [
            | inl is ↦ rw is (rows_rgb k (omega (arith, within, is)))
            | inr not_eight ↦ elim (cases_eq mode 12) [
              | inl is ↦ rw is (rows_rgba k (omega (arith, within, is)))
              | inr not_twelve ↦ elim (cases_eq mode 10) [
                | inl is ↦ rw is (rows_scale k (eqb-true k 2 (rw is at on)))
                | inr not_ten ↦
                    let no : false ≡ true =
                    rw (
                      ne_eqb mode 10 not_ten,
                      ne_eqb mode 0 not_zero,
                      ne_eqb mode 4 not_four,
                      ne_eqb mode 8 not_eight,
                      ne_eqb mode 12 not_twelve,
                    ) at on in
                    absurd (cc)
              ]
            ]
          ]
        ]
      ]

pub eight_entries : (xs : List ℕ) → length xs ≡ 8
    → xs ≡ get_or xs 0 0 ∷ get_or xs 1 0 ∷ get_or xs 2 0 ∷ get_or xs 3 0 ∷ get_or xs 4 0
    ∷ get_or xs 5 0 ∷ get_or xs 6 0 ∷ get_or xs 7 0 ∷ []
eight_entries (a ∷ b ∷ c ∷ d ∷ e ∷ g ∷ h ∷ i ∷ []) is = refl
eight_entries [] is = absurd (omega arith)
eight_entries (a ∷ []) is = absurd (omega arith)
eight_entries (a ∷ b ∷ []) is = absurd (omega arith)
eight_entries (a ∷ b ∷ c ∷ []) is = absurd (omega arith)
eight_entries (a ∷ b ∷ c ∷ d ∷ []) is = absurd (omega arith)
eight_entries (a ∷ b ∷ c ∷ d ∷ e ∷ []) is = absurd (omega arith)
eight_entries (a ∷ b ∷ c ∷ d ∷ e ∷ g ∷ []) is = absurd (omega arith)
eight_entries (a ∷ b ∷ c ∷ d ∷ e ∷ g ∷ h ∷ []) is = absurd (omega arith)
eight_entries (a ∷ b ∷ c ∷ d ∷ e ∷ g ∷ h ∷ i ∷ j ∷ xs) is = absurd (omega arith)

pub row_law : (mode k f u : ℕ) (values : List ℕ) → length values ≡ 8 → IsTrue (has_rows mode k)
    → k < mode / 4 + 1 → u ≤ 255 → IsRow mode values k f u
row_law mode k f u values eight on within small =
    subst (λ xs. IsRow mode xs k f u) (sym (eight_entries values eight))
    (rows_of_mode f u small _ _ _ _ _ _ _ _ mode k on within)

-- ---- several channels

pub times_floor : (share less more r : ℕ) → less + r ≤ more
    → share * less + share * r ≤ share * more
times_floor share less more r below = let scaled : share * (less + r) ≤ share * more =
    mul-le-mul_left share below in omega arith

pub four_floors : (a b c d less_a less_b less_c less_d more_a more_b more_c more_d : ℕ)
    → less_a + a ≤ more_a → less_b + b ≤ more_b → less_c + c ≤ more_c → less_d + d ≤ more_d
    → less_a + less_b + less_c + less_d + (a + b + c + d) ≤ more_a + more_b + more_c + more_d
four_floors a b c d less_a less_b less_c less_d more_a more_b more_c more_d first second third
    fourth = omega arith

-- ---- both ends

less_swapped : (m : Moments) (x y : ℕ) → less_of (swapped m) y x ≡ less_of m x y
less_swapped m x y = plain m.first_targets m.second_targets
  where
    plain : (uz wz : ℕ) → 2 * (y * wz + x * uz) ≡ 2 * (x * uz + y * wz)
    plain uz wz = omega arith

more_swapped : (m : Moments) (x y : ℕ) → more_of (swapped m) y x ≡ more_of m x y
more_swapped m x y = plain m.first_squares m.products m.second_squares m.target_squares
  where
    plain : (uu uw ww zz : ℕ) → y * y * ww + 2 * (y * x * uw) + x * x * uu + zz
        ≡ x * x * uu + 2 * (x * y * uw) + y * y * ww + zz
    plain uu uw ww zz = omega arith

form_swapped : (tables : Tables) (m : Moments) (c : ℕ) (ends : Ends) → IsForm tables m c ends
    → IsForm tables (swapped m) c (ends.1, ends.0)
form_swapped tables m c ends form = rw (less_swapped m _ _, more_swapped m _ _) form

forms_swapped : (tables : Tables) (floor : PartitionFloor) (ends : Ends)
    → AreForms tables floor ends → AreForms tables (swapped_floor floor) (ends.1, ends.0)
forms_swapped tables floor ends forms = record {
  red_form = form_swapped tables floor.red 0 ends forms.red_form;
  green_form = form_swapped tables floor.green 1 ends forms.green_form;
  blue_form = form_swapped tables floor.blue 2 ends forms.blue_form;
  alpha_form = form_swapped tables floor.alpha 3 ends forms.alpha_form;
}

form_less-swapped : (tables : Tables) (floor : PartitionFloor) (ends : Ends)
    → form_less tables (swapped_floor floor) (ends.1, ends.0) ≡ form_less tables floor ends
form_less-swapped tables floor ends =
    rw (
      less_swapped floor.red _ _,
      less_swapped floor.green _ _,
      less_swapped floor.blue _ _,
      less_swapped floor.alpha _ _,
    ) refl

form_more-swapped : (tables : Tables) (floor : PartitionFloor) (ends : Ends)
    → form_more tables (swapped_floor floor) (ends.1, ends.0) ≡ form_more tables floor ends
form_more-swapped tables floor ends =
    rw (
      more_swapped floor.red _ _,
      more_swapped floor.green _ _,
      more_swapped floor.blue _ _,
      more_swapped floor.alpha _ _,
    ) refl

-- if the first end is given, and the form with it has a floor, or the second end and the form with
-- exchanged ends
pub first_given : (tables : Tables) (floor : PartitionFloor) (least : ℕ) (ends : Ends)
    (first : List ℕ) → AreForms tables floor ends
    → ((other : List ℕ) → AreForms tables floor (first, other)
    → form_less tables floor (first, other) + least ≤ form_more tables floor (first, other))
    → ends.0 ≡ first → form_less tables floor ends + least ≤ form_more tables floor ends
first_given tables floor least ends first forms with_first same =
    let P : List ℕ → Type 0 = λ end. AreForms tables floor (end, ends.1) in
    let Q : List ℕ → Type 0 = λ end.
    form_less tables floor (end, ends.1) + least ≤ form_more tables floor (end, ends.1) in
    subst Q (sym same) (with_first ends.1 (subst P same forms))

pub second_given : (tables : Tables) (floor back : PartitionFloor) (least : ℕ) (ends : Ends)
    (second : List ℕ) → back ≡ swapped_floor floor → AreForms tables floor ends
    → ((other : List ℕ) → AreForms tables back (second, other)
    → form_less tables back (second, other) + least ≤ form_more tables back (second, other))
    → ends.1 ≡ second → form_less tables floor ends + least ≤ form_more tables floor ends
second_given tables floor back least ends second back_is forms with_second same =
    let P : List ℕ → Type 0 = λ end. AreForms tables (swapped_floor floor) (end, ends.0) in
    let Q : List ℕ → Type 0 = λ end. form_less tables (swapped_floor floor)
    (end, ends.0) + least ≤ form_more tables (swapped_floor floor) (end, ends.0) in
    let R : PartitionFloor → Type 0 = λ b. (other : List ℕ) → AreForms tables b (second, other)
    → form_less tables b (second, other) + least ≤ form_more tables b (second, other) in
    let here : form_less tables (swapped_floor floor) (ends.1, ends.0) + least ≤ form_more tables
    (swapped_floor floor) (ends.1, ends.0) =
    subst Q (sym same) (subst R back_is with_second ends.0
    (subst P same (forms_swapped tables floor ends forms)))
    in
    rw (form_less-swapped tables floor ends, form_more-swapped tables floor ends) at here

-- if one of the ends is given, and the forms with either are far enough
pub row_over : (tables : Tables) (floor back : PartitionFloor) (most over under : ℕ) (ends : Ends)
    (first second : List ℕ) → back ≡ swapped_floor floor → AreForms tables floor ends
    → ((other : List ℕ) → AreForms tables floor (first, other)
    → form_less tables floor (first, other) + over ≤ form_more tables floor (first, other))
    → ((other : List ℕ) → AreForms tables back (second, other)
    → form_less tables back (second, other) + under ≤ form_more tables back (second, other))
    → most ≤ over → most ≤ under → (ends.0 ≡ first) ⊎ (ends.1 ≡ second)
    → form_less tables floor ends + most ≤ form_more tables floor ends
row_over tables floor back most over under ends first second back_is forms with_first with_second
    far_first far_second given =
    elim given [
      | inl same ↦ further (form_less tables floor ends) over
          (form_more tables floor ends) far_first
          (first_given tables floor over ends first forms with_first same)
      | inr same ↦ further (form_less tables floor ends) under
          (form_more tables floor ends) far_second
          (second_given tables floor back under ends second back_is forms with_second same)
    ]
  where
    further : (less r more : ℕ) → most ≤ r → less + r ≤ more → less + most ≤ more
    further less r more far below = omega arith
