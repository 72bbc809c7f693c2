-- While the values at a place keep their trend, one of the endpoints rises with them; and the trend
-- of each value.
use Rattle.std.proofs.Common.{◌≡◌, ◌≢◌, ◌⊎◌, ℕ, zero, suc, ◌/◌, ◌%◌, ◌==◌, ◌<◌, ◌≤◌, Bool, true, false, List, [], ◌∷◌, length, set, refl, sym, ap, subst, ◌∙◌, arith, inl, inr}
use Rattle.std.specs.Prelude.{IsTrue, pos, ◌+ℤ◌, if◌then◌else◌, bit_and, bit_or, nat_eq}
use Rattle.std.specs.Int.{int_shr}
use Rattle.std.proofs.lemmas.Bool.{cases_eq, le-leb, lt-leb, leb-false, eqb-true, ne_eqb}
use Rattle.std.proofs.lemmas.Nat.{and_comm, and_assoc, or_disjoint}
use Rattle.astc_model.proofs.SumLaws.{every_below}
use Rattle.astc_model.specs.Endpoints.{base, offset, endpoint_integers, clamp_byte}
use Rattle.error_tables.proofs.RowLaws.{eight_entries}
use Rattle.colour_bounds.specs.Bounds.{first_sum, second_sum, order_of}
use Rattle.colour_bounds.specs.OneChannel.{is_scaling, is_exchanging, is_offsetting, moves_one, moved_ends}
use Rattle.colour_bounds.specs.OwnWalks.{end_of, turned, RisesAlong}
use Rattle.colour_bounds.specs.declared.one_channel.Trend.{Trend}
use Rattle.colour_bounds.specs.declared.one_channel.Trend.TheVariants.{Rising, Falling}
use Rattle.colour_bounds.proofs.BoundLaws.{rises, falls}

-- half of a sum, clamped, rises with the first number
half_rises : (u v b : ℕ) → u ≤ v
    → clamp_byte (int_shr (pos u +ℤ pos b) 1) ≤ clamp_byte (int_shr (pos v +ℤ pos b) 1)
half_rises u v b le = omega (arith, le)

clamped_rises : (u v : ℕ) → u ≤ v → clamp_byte (pos u) ≤ clamp_byte (pos v)
clamped_rises u v le = omega (arith, le)

-- the endpoint modes of each kind
pub scaling_is : (mode : ℕ) → IsTrue (is_scaling mode) → (mode ≡ 6) ⊎ (mode ≡ 10)
scaling_is mode on = elim (cases_eq mode 6) [
  | inl six ↦ inl six
  | inr other ↦ inr (eqb-true mode 10 (rw (ne_eqb mode 6 other) at on))
]

pub offsetting_is : (mode : ℕ) → IsTrue (is_offsetting mode) → (mode ≡ 9) ⊎ (mode ≡ 13)
offsetting_is mode on = elim (cases_eq mode 9) [
  | inl is ↦ inl is
  | inr other ↦ inr (eqb-true mode 13 (rw (ne_eqb mode 9 other) at on))
]

pub exchanging_is : (mode : ℕ) → IsTrue (is_exchanging mode) → (mode ≡ 8) ⊎ (mode ≡ 12)
exchanging_is mode on = elim (cases_eq mode 8) [
  | inl is ↦ inl is
  | inr other ↦ inr (eqb-true mode 12 (rw (ne_eqb mode 8 other) at on))
]

-- ---- by the place of the value

module _ (a b c d e g h i u v : ℕ) (le : u ≤ v) where
  abbrev eight : List ℕ
  eight = a ∷ b ∷ c ∷ d ∷ e ∷ g ∷ h ∷ i ∷ []

  abbrev Rises : Trend → (mode place : ℕ) → Bool → Type 0
  Rises trend mode place is_first = IsTrue (moves_one trend mode (set eight place u) place)
      → IsTrue (moves_one trend mode (set eight place v) place)
      → end_of is_first (moved_ends trend mode (set eight place u) place)
      ≤ end_of is_first (moved_ends trend mode (set eight place v) place)

  scaled_six : (place : ℕ) → place < 4 → Rises Rising 6 place (place == 4)
  scaled_six zero within on also = le
  scaled_six (suc zero) within on also = le
  scaled_six (suc (suc zero)) within on also = le
  scaled_six (suc (suc (suc zero))) within on also = absurd (cc)
  scaled_six (suc (suc (suc (suc n)))) within on also = absurd (omega arith)

  scaled_ten : (place : ℕ) → place < 6 → Rises Rising 10 place (place == 4)
  scaled_ten zero within on also = le
  scaled_ten (suc zero) within on also = le
  scaled_ten (suc (suc zero)) within on also = le
  scaled_ten (suc (suc (suc zero))) within on also = absurd (cc)
  scaled_ten (suc (suc (suc (suc zero)))) within on also = le
  scaled_ten (suc (suc (suc (suc (suc zero))))) within on also = le
  scaled_ten (suc (suc (suc (suc (suc (suc n)))))) within on also = absurd (omega arith)

  rising_eight : (place : ℕ) → place < 6 → Rises Rising 8 place (place % 2 == 0)
  rising_eight zero within on also = le
  rising_eight (suc zero) within on also = le
  rising_eight (suc (suc zero)) within on also = le
  rising_eight (suc (suc (suc zero))) within on also = le
  rising_eight (suc (suc (suc (suc zero)))) within on also = le
  rising_eight (suc (suc (suc (suc (suc zero))))) within on also = le
  rising_eight (suc (suc (suc (suc (suc (suc n)))))) within on also = absurd (omega arith)

  rising_twelve : (place : ℕ) → place < 8 → Rises Rising 12 place (place % 2 == 0)
  rising_twelve zero within on also = le
  rising_twelve (suc zero) within on also = le
  rising_twelve (suc (suc zero)) within on also = le
  rising_twelve (suc (suc (suc zero))) within on also = le
  rising_twelve (suc (suc (suc (suc zero)))) within on also = le
  rising_twelve (suc (suc (suc (suc (suc zero))))) within on also = le
  rising_twelve (suc (suc (suc (suc (suc (suc zero)))))) within on also = le
  rising_twelve (suc (suc (suc (suc (suc (suc (suc zero))))))) within on also = le
  rising_twelve (suc (suc (suc (suc (suc (suc (suc (suc n)))))))) within on also =
      absurd (omega arith)

  falling_eight : (place : ℕ) → place < 6 → Rises Falling 8 place (place % 2 == 1)
  falling_eight zero within on also = half_rises u v e le
  falling_eight (suc zero) within on also = half_rises u v g le
  falling_eight (suc (suc zero)) within on also = half_rises u v e le
  falling_eight (suc (suc (suc zero))) within on also = half_rises u v g le
  falling_eight (suc (suc (suc (suc zero)))) within on also = absurd (cc)
  falling_eight (suc (suc (suc (suc (suc zero))))) within on also = absurd (cc)
  falling_eight (suc (suc (suc (suc (suc (suc n)))))) within on also = absurd (omega arith)

  falling_twelve : (place : ℕ) → place < 8 → Rises Falling 12 place (place % 2 == 1)
  falling_twelve zero within on also = half_rises u v e le
  falling_twelve (suc zero) within on also = half_rises u v g le
  falling_twelve (suc (suc zero)) within on also = half_rises u v e le
  falling_twelve (suc (suc (suc zero))) within on also = half_rises u v g le
  falling_twelve (suc (suc (suc (suc zero)))) within on also = absurd (cc)
  falling_twelve (suc (suc (suc (suc (suc zero))))) within on also = absurd (cc)
  falling_twelve (suc (suc (suc (suc (suc (suc zero)))))) within on also = clamped_rises u v le
  falling_twelve (suc (suc (suc (suc (suc (suc (suc zero))))))) within on also =
      clamped_rises u v le
  falling_twelve (suc (suc (suc (suc (suc (suc (suc (suc n)))))))) within on also =
      absurd (omega arith)

  scaling : (mode place : ℕ) → (mode ≡ 6) ⊎ (mode ≡ 10) → place < endpoint_integers mode
      → Rises Rising mode place (place == 4)
  scaling mode place mode_is = elim mode_is [
    | inl six ↦ rw six (scaled_six place)
    | inr ten ↦ rw ten (scaled_ten place)
  ]

  direct_rising : (mode place : ℕ) → (mode ≡ 8) ⊎ (mode ≡ 12) → place < endpoint_integers mode
      → Rises Rising mode place (place % 2 == 0)
  direct_rising mode place mode_is = elim mode_is [
    | inl eight_is ↦ rw eight_is (rising_eight place)
    | inr twelve ↦ rw twelve (rising_twelve place)
  ]

  direct_falling : (mode place : ℕ) → (mode ≡ 8) ⊎ (mode ≡ 12) → place < endpoint_integers mode
      → Rises Falling mode place (place % 2 == 1)
  direct_falling mode place mode_is = elim mode_is [
    | inl eight_is ↦ rw eight_is (falling_eight place)
    | inr twelve ↦ rw twelve (falling_twelve place)
  ]

-- ---- bases

no_top : (n : ℕ) → n < 128 → bit_and n 128 ≡ 0
no_top n small = eqb-true (bit_and n 128) 0
    (every_below (λ k. nat_eq (bit_and k 128) 0) 128 n refl small)

apart : (n x : ℕ) → n < 128 → bit_and n (bit_and x 128) ≡ 0
apart n x small = ap (bit_and n) (and_comm x 128) ∙ sym (and_assoc x n 128)
    ∙ ap (λ k. bit_and k x) (no_top n small)

base_rises : (u v x : ℕ) → u ≤ v → v ≤ 255
    → bit_or (u / 2) (bit_and x 128) ≤ bit_or (v / 2) (bit_and x 128)
base_rises u v x le byte =
    rw (
      or_disjoint (u / 2) (bit_and x 128) (apart (u / 2) x (omega (arith, le, byte))),
      or_disjoint (v / 2) (bit_and x 128) (apart (v / 2) x (omega (arith, byte))),
    ) (omega (arith, le))

module _ (a b c d e g h i u v : ℕ) (le : u ≤ v) (byte : v ≤ 255) where
  abbrev listed : List ℕ
  listed = a ∷ b ∷ c ∷ d ∷ e ∷ g ∷ h ∷ i ∷ []

  abbrev BaseRises : Trend → (mode place : ℕ) → Bool → Type 0
  BaseRises trend mode place is_first = IsTrue (moves_one trend mode (set listed place u) place)
      → IsTrue (moves_one trend mode (set listed place v) place)
      → end_of is_first (moved_ends trend mode (set listed place u) place)
      ≤ end_of is_first (moved_ends trend mode (set listed place v) place)

  clamped_base : (x : ℕ) → clamp_byte (pos (bit_or (u / 2) (bit_and x 128)))
      ≤ clamp_byte (pos (bit_or (v / 2) (bit_and x 128)))
  clamped_base x = clamped_rises _ _ (base_rises u v x le byte)

  half_base : (x other : ℕ) → clamp_byte
      (int_shr (pos (bit_or (u / 2) (bit_and x 128)) +ℤ pos other) 1)
      ≤ clamp_byte (int_shr (pos (bit_or (v / 2) (bit_and x 128)) +ℤ pos other) 1)
  half_base x other = half_rises _ _ other (base_rises u v x le byte)

  rising_base : (mode place : ℕ) → (mode ≡ 9) ⊎ (mode ≡ 13) → place < 8 → place % 2 ≡ 0
      → BaseRises Rising mode place true
  unfolding base
  rising_base mode zero mode_is within even = elim mode_is [
    | inl is ↦ rw is (λ on also. clamped_base b)
    | inr is ↦ rw is (λ on also. clamped_base b)
  ]
  rising_base mode (suc zero) mode_is within even = absurd (omega (arith, even))
  rising_base mode (suc (suc zero)) mode_is within even = elim mode_is [
    | inl is ↦ rw is (λ on also. clamped_base d)
    | inr is ↦ rw is (λ on also. clamped_base d)
  ]
  rising_base mode (suc (suc (suc zero))) mode_is within even = absurd (omega (arith, even))
  rising_base mode (suc (suc (suc (suc zero)))) mode_is within even = elim mode_is [
    | inl is ↦ rw is (λ on also. clamped_base g)
    | inr is ↦ rw is (λ on also. clamped_base g)
  ]
  rising_base mode (suc (suc (suc (suc (suc zero))))) mode_is within even =
      absurd (omega (arith, even))
  rising_base mode (suc (suc (suc (suc (suc (suc zero)))))) mode_is within even = elim mode_is [
    | inl is ↦ rw is (λ on also. clamped_base i)
    | inr is ↦ rw is (λ on also. clamped_base i)
  ]
  rising_base mode (suc (suc (suc (suc (suc (suc (suc n))))))) mode_is within even =
      absurd (omega (arith, even, within))

  falling_base : (mode place : ℕ) → (mode ≡ 9) ⊎ (mode ≡ 13) → place < 8 → place % 2 ≡ 0
      → BaseRises Falling mode place false
  unfolding base
  falling_base mode zero mode_is within even = elim mode_is [
    | inl is ↦ rw is (λ on also. half_base b _)
    | inr is ↦ rw is (λ on also. half_base b _)
  ]
  falling_base mode (suc zero) mode_is within even = absurd (omega (arith, even))
  falling_base mode (suc (suc zero)) mode_is within even = elim mode_is [
    | inl is ↦ rw is (λ on also. half_base d _)
    | inr is ↦ rw is (λ on also. half_base d _)
  ]
  falling_base mode (suc (suc (suc zero))) mode_is within even = absurd (omega (arith, even))
  falling_base mode (suc (suc (suc (suc zero)))) mode_is within even = λ on also. absurd (cc)
  falling_base mode (suc (suc (suc (suc (suc zero))))) mode_is within even =
      absurd (omega (arith, even))
  falling_base mode (suc (suc (suc (suc (suc (suc zero)))))) mode_is within even = elim mode_is [
    | inl is ↦ rw is (λ on also. clamped_base i)
    | inr is ↦ rw is (λ on also. clamped_base i)
  ]
  falling_base mode (suc (suc (suc (suc (suc (suc (suc n))))))) mode_is within even =
      absurd (omega (arith, even, within))

eight_at_most : (mode place : ℕ) → (mode ≡ 9) ⊎ (mode ≡ 13) → place < endpoint_integers mode
    → place < 8
eight_at_most mode place mode_is within = elim mode_is [
  | inl is ↦ omega (arith, is, within)
  | inr is ↦ omega (arith, is, within)
]

-- ---- of any eight values

along : (mode place : ℕ) (trend : Trend) (is_first : Bool)
    → ((a b c d e g h i u v : ℕ) (le : u ≤ v) → v ≤ 255
    → Rises a b c d e g h i u v le trend mode place is_first)
    → RisesAlong mode trend place is_first
along mode place trend is_first of_eight = record {
  rises = λ values u v all le byte.
      subst (λ xs. IsTrue (moves_one trend mode (set xs place u) place)
      → IsTrue (moves_one trend mode (set xs place v) place)
      → end_of is_first (moved_ends trend mode (set xs place u) place)
      ≤ end_of is_first (moved_ends trend mode (set xs place v) place))
      (sym (eight_entries values all)) (of_eight _ _ _ _ _ _ _ _ u v le byte);
}

none_in : (mode place : ℕ) (values : List ℕ) → (mode ≡ 6) ⊎ (mode ≡ 10)
    → moves_one Falling mode values place ≡ false
none_in mode place values mode_is = elim mode_is [
  | inl six ↦ rw six (none_by place)
  | inr ten ↦ rw ten (none_by place)
]
  where
    none_by : (k : ℕ) → moves_one Falling 6 values k ≡ false
    none_by k = elim (cases_eq (k / 2) 2) [
      | inl same ↦ rw same refl
      | inr other ↦ rw (ne_eqb (k / 2) 2 other) refl
    ]

pub scaling_rises : (mode place : ℕ) (trend : Trend) → (mode ≡ 6) ⊎ (mode ≡ 10)
    → place < endpoint_integers mode → RisesAlong mode trend place (place == 4)
scaling_rises mode place Rising mode_is within =
    along mode place Rising (place == 4)
    (λ a b c d e g h i u v le byte. scaling a b c d e g h i u v le mode place mode_is within)
scaling_rises mode place Falling mode_is within = record {
  rises = λ values u v all le byte on also.
      let no : false ≡ true = rw (none_in mode place (set values place u) mode_is) at on in
      absurd (cc);
}

pub direct_rises : (mode place : ℕ) → (mode ≡ 8) ⊎ (mode ≡ 12) → place < endpoint_integers mode
    → RisesAlong mode Rising place (place % 2 == 0)
direct_rises mode place mode_is within =
    along mode place Rising (place % 2 == 0)
    (λ a b c d e g h i u v le byte. direct_rising a b c d e g h i u v le mode place mode_is within)

pub direct_falls : (mode place : ℕ) → (mode ≡ 8) ⊎ (mode ≡ 12) → place < endpoint_integers mode
    → RisesAlong mode Falling place (place % 2 == 1)
direct_falls mode place mode_is within =
    along mode place Falling (place % 2 == 1)
    (λ a b c d e g h i u v le byte. direct_falling a b c d e g h i u v le mode place mode_is within)

pub bases_rise : (mode place : ℕ) → (mode ≡ 9) ⊎ (mode ≡ 13) → place < endpoint_integers mode
    → place % 2 ≡ 0 → RisesAlong mode Rising place true
bases_rise mode place mode_is within even =
    along mode place Rising true
    (λ a b c d e g h i u v le byte. rising_base a b c d e g h i u v le byte mode place mode_is
    (eight_at_most mode place mode_is within) even)

pub bases_fall : (mode place : ℕ) → (mode ≡ 9) ⊎ (mode ≡ 13) → place < endpoint_integers mode
    → place % 2 ≡ 0 → RisesAlong mode Falling place false
bases_fall mode place mode_is within even =
    along mode place Falling false
    (λ a b c d e g h i u v le byte. falling_base a b c d e g h i u v le byte mode place mode_is
    (eight_at_most mode place mode_is within) even)

-- ---- values in a trend

-- the trend of a mode with a scale does not change
pub stays : (mode place : ℕ) (trend : Trend) (xs ys : List ℕ) → (mode ≡ 6) ⊎ (mode ≡ 10)
    → IsTrue (moves_one trend mode xs place) → IsTrue (moves_one trend mode ys place)
stays mode place Rising xs ys mode_is = elim mode_is [
  | inl six ↦ rw six (λ on. on)
  | inr ten ↦ rw ten (λ on. on)
]
stays mode place Falling xs ys mode_is = λ on.
    let no : false ≡ true = rw (none_in mode place xs mode_is) at on in
    absurd (cc)

module _ (mode place : ℕ) (values : List ℕ) (all : length values ≡ 8) (small : place < 8)
    (mode_is : (mode ≡ 8) ⊎ (mode ≡ 12)) where
  pub all_rise : (u : ℕ) → u ≤ 255 → (order_of mode values place).0 ≡ 0
      → 256 ≤ (order_of mode values place).1
      → IsTrue (moves_one Rising mode (set values place u) place)
  all_rise u byte = elim mode_is [
    | inl is ↦ rw is (λ from before. le-leb _ _
        (rises values place all u small (omega (arith, from)) (omega (arith, before, byte))))
    | inr is ↦ rw is (λ from before. le-leb _ _
        (rises values place all u small (omega (arith, from)) (omega (arith, before, byte))))
  ]

  pub all_fall : (u : ℕ) → u ≤ 255
      → ((order_of mode values place).1 ≡ 0) ⊎ (256 ≤ (order_of mode values place).0)
      → place / 2 ≢ 2 → IsTrue (moves_one Falling mode (set values place u) place)
  all_fall u byte = elim mode_is [
    | inl is ↦ rw is (λ out other. rw (
      ne_eqb (place / 2) 2 other,
      lt-leb _ _ (falls values place all u small byte (outside _ _ out)),
    ) refl)
    | inr is ↦ rw is (λ out other. rw (
      ne_eqb (place / 2) 2 other,
      lt-leb _ _ (falls values place all u small byte (outside _ _ out)),
    ) refl)
  ]
    where
      outside : (from before : ℕ) → (before ≡ 0) ⊎ (256 ≤ from) → (u < from) ⊎ (before ≤ u)
      outside from before out = elim out [
        | inl none ↦ inr (omega (arith, none))
        | inr high ↦ inl (omega (arith, high, byte))
      ]

-- a value that does not have a trend has the other one
pub is_turned : (trend : Trend) (mode place : ℕ) (values : List ℕ) → (mode ≡ 8) ⊎ (mode ≡ 12)
    → place / 2 ≢ 2 → moves_one trend mode values place ≡ false
    → IsTrue (moves_one (turned trend) mode values place)
is_turned trend mode place values mode_is other = elim mode_is [
  | inl is ↦ rw is (of_eight trend)
  | inr is ↦ rw is (of_twelve trend)
]
  where
    flip : (b : Bool) → b ≡ false → (if b then false else true) ≡ true
    flip true off = absurd (cc)
    flip false off = refl

    back : (b : Bool) → (if b then false else true) ≡ false → b ≡ true
    back true is = refl
    back false is = absurd (cc)

    of_eight : (t : Trend) → moves_one t 8 values place ≡ false
        → IsTrue (moves_one (turned t) 8 values place)
    of_eight Rising off = rw (ne_eqb (place / 2) 2 other) (flip _ off)
    of_eight Falling off = back _ (rw (ne_eqb (place / 2) 2 other) at off)

    of_twelve : (t : Trend) → moves_one t 12 values place ≡ false
        → IsTrue (moves_one (turned t) 12 values place)
    of_twelve Rising off = rw (ne_eqb (place / 2) 2 other) (flip _ off)
    of_twelve Falling off = back _ (rw (ne_eqb (place / 2) 2 other) at off)

-- in the falling trend, a value that moves one channel is not blue
pub not_blue : (mode place : ℕ) (values : List ℕ) → IsTrue (moves_one Falling mode values place)
    → place / 2 ≢ 2
not_blue mode place values on = λ same.
    let no : false ≡ true = rw same at on in
    absurd (cc)

-- a blue value without the trend of the present one gives exchanged colours
pub blue_falls : (trend : Trend) (mode place : ℕ) (present values : List ℕ)
    → (mode ≡ 8) ⊎ (mode ≡ 12) → place / 2 ≡ 2 → IsTrue (moves_one trend mode present place)
    → moves_one trend mode values place ≡ false → second_sum values < first_sum values
blue_falls Rising mode place present values mode_is blue on = elim mode_is [
  | inl is ↦ rw is (λ off. leb-false (first_sum values) (second_sum values) off)
  | inr is ↦ rw is (λ off. leb-false (first_sum values) (second_sum values) off)
]
blue_falls Falling mode place present values mode_is blue on =
    absurd (not_blue mode place present on blue)

-- a base does not change the trend of offsets
module _ (a b c d e g h i u v : ℕ) where
  abbrev offsets : List ℕ
  offsets = a ∷ b ∷ c ∷ d ∷ e ∷ g ∷ h ∷ i ∷ []

  abbrev Stays : Trend → (mode place : ℕ) → Type 0
  Stays trend mode place = IsTrue (moves_one trend mode (set offsets place u) place)
      → IsTrue (moves_one trend mode (set offsets place v) place)

  base_stays : (trend : Trend) (mode place : ℕ) → (mode ≡ 9) ⊎ (mode ≡ 13) → place < 8
      → place % 2 ≡ 0 → Stays trend mode place
  unfolding offset
  base_stays trend mode zero mode_is within even = elim mode_is [
    | inl is ↦ rw is (same trend)
    | inr is ↦ rw is (same_too trend)
  ]
    where
      same : (t : Trend) → Stays t 9 0
      same Rising = λ on. on
      same Falling = λ on. on

      same_too : (t : Trend) → Stays t 13 0
      same_too Rising = λ on. on
      same_too Falling = λ on. on
  base_stays trend mode (suc zero) mode_is within even = absurd (omega (arith, even))
  base_stays trend mode (suc (suc zero)) mode_is within even = elim mode_is [
    | inl is ↦ rw is (same trend)
    | inr is ↦ rw is (same_too trend)
  ]
    where
      same : (t : Trend) → Stays t 9 2
      same Rising = λ on. on
      same Falling = λ on. on

      same_too : (t : Trend) → Stays t 13 2
      same_too Rising = λ on. on
      same_too Falling = λ on. on
  base_stays trend mode (suc (suc (suc zero))) mode_is within even = absurd (omega (arith, even))
  base_stays trend mode (suc (suc (suc (suc zero)))) mode_is within even = elim mode_is [
    | inl is ↦ rw is (same trend)
    | inr is ↦ rw is (same_too trend)
  ]
    where
      same : (t : Trend) → Stays t 9 4
      same Rising = λ on. on
      same Falling = λ on. on

      same_too : (t : Trend) → Stays t 13 4
      same_too Rising = λ on. on
      same_too Falling = λ on. on
  base_stays trend mode (suc (suc (suc (suc (suc zero))))) mode_is within even =
      absurd (omega (arith, even))
  base_stays trend mode (suc (suc (suc (suc (suc (suc zero)))))) mode_is within even =
      elim mode_is [
        | inl is ↦ rw is (same trend)
        | inr is ↦ rw is (same_too trend)
      ]
    where
      same : (t : Trend) → Stays t 9 6
      same Rising = λ on. on
      same Falling = λ on. on

      same_too : (t : Trend) → Stays t 13 6
      same_too Rising = λ on. on
      same_too Falling = λ on. on
  base_stays trend mode (suc (suc (suc (suc (suc (suc (suc n))))))) mode_is within even =
      absurd (omega (arith, even, within))

pub bases_stay : (trend : Trend) (mode place u v : ℕ) (values : List ℕ) → length values ≡ 8
    → (mode ≡ 9) ⊎ (mode ≡ 13) → place < endpoint_integers mode → place % 2 ≡ 0
    → IsTrue (moves_one trend mode (set values place u) place)
    → IsTrue (moves_one trend mode (set values place v) place)
bases_stay trend mode place u v values all mode_is within even =
    subst (λ xs. IsTrue (moves_one trend mode (set xs place u) place)
    → IsTrue (moves_one trend mode (set xs place v) place)) (sym (eight_entries values all))
    (base_stays _ _ _ _ _ _ _ _ u v trend mode place mode_is
    (eight_at_most mode place mode_is within) even)
