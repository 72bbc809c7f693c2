-- The values of an offset: while the top bit stays, one endpoint rises with the offset and the
-- other stays; and the trend of each value.
use Rattle.std.proofs.Common.{◌≡◌, ◌≢◌, ◌⊎◌, ℕ, zero, suc, ◌+◌, ◌/◌, ◌%◌, ◌<◌, ◌≤◌, Bool, true, false, List, [], ◌∷◌, length, set, refl, sym, ap, subst, arith, inl, inr}
use Rattle.std.specs.Prelude.{IsTrue, ℤ, pos, negsuc, ◌+ℤ◌, ◌-ℤ◌, ◌≤ℤ◌, int_le, bit_and, bit_or, if◌then◌else◌}
use Rattle.std.specs.Int.{int_shr}
use Rattle.std.proofs.lemmas.Bool.{cases_lt, lt-ltb, le-ltb, le-leb, ne_eqb}
use Rattle.std.proofs.lemmas.Int.{ints}
use Rattle.astc_model.specs.Endpoints.{base, offset, base_with_offset, six_bit_signed, endpoint_integers, clamp_byte}
use Rattle.error_tables.proofs.RowLaws.{eight_entries}
use Rattle.colour_bounds.specs.OneChannel.{moves_one, moved_ends}
use Rattle.colour_bounds.specs.OwnWalks.{end_of, other_end_of, is_falling, turned, value_against}
use Rattle.colour_bounds.specs.declared.one_channel.Trend.{Trend}
use Rattle.colour_bounds.specs.declared.one_channel.Trend.TheVariants.{Rising, Falling}
use Rattle.colour_bounds.proofs.OrderLaws.{key}

-- ---- offsets

abbrev six_of : ℕ → ℤ
six_of value = six_bit_signed (value / 2 % 64)

six_low : (a : ℕ) → a < 32 → six_bit_signed a ≡ pos a
six_low a low = rw (lt-ltb a 32 low) refl

six_high : (a : ℕ) → 32 ≤ a → six_bit_signed a ≡ pos a -ℤ pos 64
six_high a high = rw (le-ltb a 32 high) refl

-- six bits as a signed number rise with (a + 32) % 64
six_rises : (a b : ℕ) → a < 64 → b < 64 → (a + 32) % 64 ≤ (b + 32) % 64
    → six_bit_signed a ≤ℤ six_bit_signed b
six_rises a b small also rise =
    elim (cases_lt a 32) [
      | inl low ↦ elim (cases_lt b 32) [
        | inl too ↦ rw (six_low a low, six_low b too) (omega (arith, ints, rise, low, too))
        | inr high ↦ absurd (omega (arith, rise, low, high, also))
      ]
      | inr high ↦ elim (cases_lt b 32) [
        | inl low ↦ rw (six_high a high, six_low b low) (omega (arith, ints, small, high, low))
        | inr too ↦ rw (six_high a high, six_high b too)
            (omega (arith, ints, rise, small, also, high, too))
      ]
    ]

least_offset : (value : ℕ) → negsuc 31 ≤ℤ six_of value
least_offset value =
    elim (cases_lt (value / 2 % 64) 32) [
      | inl low ↦ rw (six_low (value / 2 % 64) low) (omega (arith, ints))
      | inr high ↦ rw (six_high (value / 2 % 64) high) (omega (arith, ints, high))
    ]

greatest_offset : (value : ℕ) → six_of value ≤ℤ pos 31
greatest_offset value =
    elim (cases_lt (value / 2 % 64) 32) [
      | inl low ↦ rw (six_low (value / 2 % 64) low) (omega (arith, ints, low))
      | inr high ↦ rw (six_high (value / 2 % 64) high) (omega (arith, ints))
    ]

-- clamping keeps the order
clamp_rises : (x y : ℤ) → x ≤ℤ y → clamp_byte x ≤ clamp_byte y
clamp_rises (pos n) (pos m) order = omega (arith, ints, order)
clamp_rises (pos n) (negsuc m) order = absurd (omega (arith, ints, order))
clamp_rises (negsuc n) y order = omega arith

half_rises : (x y : ℤ) → x ≤ℤ y → int_shr x 1 ≤ℤ int_shr y 1
half_rises (pos n) (pos m) order = omega (arith, ints, order)
half_rises (pos n) (negsuc m) order = absurd (omega (arith, ints, order))
half_rises (negsuc n) (pos m) order = omega (arith, ints, order)
half_rises (negsuc n) (negsuc m) order = omega (arith, ints, order)

module _ (x y s t : ℤ) (order : x ≤ℤ y) where
  first_rises : (x +ℤ s +ℤ t) ≤ℤ (y +ℤ s +ℤ t)
  first_rises = omega (arith, ints, order)

  second_rises : (s +ℤ x +ℤ t) ≤ℤ (s +ℤ y +ℤ t)
  second_rises = omega (arith, ints, order)

  third_rises : (s +ℤ t +ℤ x) ≤ℤ (s +ℤ t +ℤ y)
  third_rises = omega (arith, ints, order)

  last_rises : (s +ℤ x) ≤ℤ (s +ℤ y)
  last_rises = omega (arith, ints, order)

-- a number that is not less than a non-negative one is non-negative
still_rises : (x y : ℤ) → x ≤ℤ y → int_le (pos 0) x ≡ true → int_le (pos 0) y ≡ true
still_rises (pos n) (pos m) order rise = le-leb 0 m (omega arith)
still_rises (pos n) (negsuc m) order rise = absurd (omega (arith, ints, order))
still_rises (negsuc n) y order rise = absurd (cc)

still_falls : (x y : ℤ) → y ≤ℤ x → (if int_le (pos 0) x then false else true) ≡ true
    → (if int_le (pos 0) y then false else true) ≡ true
still_falls (pos n) y order fall =
    let no : false ≡ true = rw (le-leb 0 n (omega arith)) at fall in
    absurd (cc)
still_falls (negsuc n) (negsuc m) order fall = refl
still_falls (negsuc n) (pos m) order fall = absurd (omega (arith, ints, order))

-- ---- ends

module _ (a b c d e g h i u v : ℕ) (top : bit_and u 128 ≡ bit_and v 128) where
  abbrev listed : List ℕ
  listed = a ∷ b ∷ c ∷ d ∷ e ∷ g ∷ h ∷ i ∷ []

  abbrev EndsRise : Trend → (mode place : ℕ) → Type 0
  EndsRise trend mode place = IsTrue (moves_one trend mode (set listed place u) place)
      → end_of (is_falling trend) (moved_ends trend mode (set listed place u) place)
      ≤ end_of (is_falling trend) (moved_ends trend mode (set listed place v) place)

  abbrev OthersStay : Trend → (mode place : ℕ) → Type 0
  OthersStay trend mode place = IsTrue (moves_one trend mode (set listed place u) place)
      → other_end_of (is_falling trend) (moved_ends trend mode (set listed place u) place)
      ≡ other_end_of (is_falling trend) (moved_ends trend mode (set listed place v) place)

  same_base : (x : ℕ) → bit_or (x / 2) (bit_and u 128) ≡ bit_or (x / 2) (bit_and v 128)
  same_base x = ap (bit_or (x / 2)) top

  same_half : (x : ℕ) (y : ℤ)
      → clamp_byte (int_shr (pos (bit_or (x / 2) (bit_and u 128)) +ℤ y) 1)
      ≡ clamp_byte (int_shr (pos (bit_or (x / 2) (bit_and v 128)) +ℤ y) 1)
  same_half x y = ap (λ n. clamp_byte (int_shr (pos n +ℤ y) 1)) (same_base x)

  bases_same : (trend : Trend) (mode place : ℕ) → (mode ≡ 9) ⊎ (mode ≡ 13) → place < 8
      → place % 2 ≢ 0 → OthersStay trend mode place
  unfolding base offset base_with_offset
  bases_same Rising mode (suc zero) mode_is within odd = elim mode_is [
    | inl is ↦ rw is (λ on. ap (λ n. clamp_byte (pos n)) (same_base a))
    | inr is ↦ rw is (λ on. ap (λ n. clamp_byte (pos n)) (same_base a))
  ]
  bases_same Rising mode (suc (suc (suc zero))) mode_is within odd = elim mode_is [
    | inl is ↦ rw is (λ on. ap (λ n. clamp_byte (pos n)) (same_base c))
    | inr is ↦ rw is (λ on. ap (λ n. clamp_byte (pos n)) (same_base c))
  ]
  bases_same Rising mode (suc (suc (suc (suc (suc zero))))) mode_is within odd = elim mode_is [
    | inl is ↦ rw is (λ on. ap (λ n. clamp_byte (pos n)) (same_base e))
    | inr is ↦ rw is (λ on. ap (λ n. clamp_byte (pos n)) (same_base e))
  ]
  bases_same Rising mode (suc (suc (suc (suc (suc (suc (suc zero))))))) mode_is within odd =
      elim mode_is [
        | inl is ↦ rw is (λ on. ap (λ n. clamp_byte (pos n)) (same_base h))
        | inr is ↦ rw is (λ on. ap (λ n. clamp_byte (pos n)) (same_base h))
      ]
  bases_same Falling mode (suc zero) mode_is within odd = elim mode_is [
    | inl is ↦ rw is (λ on. same_half a (pos (bit_or (e / 2) (bit_and g 128))))
    | inr is ↦ rw is (λ on. same_half a (pos (bit_or (e / 2) (bit_and g 128))))
  ]
  bases_same Falling mode (suc (suc (suc zero))) mode_is within odd = elim mode_is [
    | inl is ↦ rw is (λ on. same_half c (pos (bit_or (e / 2) (bit_and g 128))))
    | inr is ↦ rw is (λ on. same_half c (pos (bit_or (e / 2) (bit_and g 128))))
  ]
  bases_same Falling mode (suc (suc (suc (suc (suc zero))))) mode_is within odd =
      λ on. absurd (cc)
  bases_same Falling mode (suc (suc (suc (suc (suc (suc (suc zero))))))) mode_is within odd =
      elim mode_is [
        | inl is ↦ rw is (λ on. ap (λ n. clamp_byte (pos n)) (same_base h))
        | inr is ↦ rw is (λ on. ap (λ n. clamp_byte (pos n)) (same_base h))
      ]
  bases_same trend mode zero mode_is within odd = absurd (odd refl)
  bases_same trend mode (suc (suc zero)) mode_is within odd = absurd (odd refl)
  bases_same trend mode (suc (suc (suc (suc zero)))) mode_is within odd = absurd (odd refl)
  bases_same trend mode (suc (suc (suc (suc (suc (suc zero)))))) mode_is within odd =
      absurd (odd refl)
  bases_same trend mode (suc (suc (suc (suc (suc (suc (suc (suc n)))))))) mode_is within odd =
      absurd (omega (arith, within))

  module _ (rise : key u ≤ key v) (u_byte : u ≤ 255) (v_byte : v ≤ 255) where
    six_is : six_of u ≤ℤ six_of v
    six_is = six_rises (u / 2 % 64) (v / 2 % 64) (omega arith) (omega arith) (omega (arith, rise))

    clamped_end : (x : ℕ) → clamp_byte (pos (bit_or (x / 2) (bit_and u 128)) +ℤ six_of u)
        ≤ clamp_byte (pos (bit_or (x / 2) (bit_and v 128)) +ℤ six_of v)
    clamped_end x =
        rw top (clamp_rises (pos (bit_or (x / 2) (bit_and v 128)) +ℤ six_of u)
        (pos (bit_or (x / 2) (bit_and v 128)) +ℤ six_of v)
        (last_rises (six_of u) (six_of v) (pos (bit_or (x / 2) (bit_and v 128))) (pos 0) six_is))

    half_end : (x : ℕ) (y : ℤ)
        → clamp_byte (int_shr (pos (bit_or (x / 2) (bit_and u 128)) +ℤ six_of u +ℤ y) 1)
        ≤ clamp_byte (int_shr (pos (bit_or (x / 2) (bit_and v 128)) +ℤ six_of v +ℤ y) 1)
    half_end x y =
        rw top (clamp_rises
        (int_shr (pos (bit_or (x / 2) (bit_and v 128)) +ℤ six_of u +ℤ y) 1)
        (int_shr (pos (bit_or (x / 2) (bit_and v 128)) +ℤ six_of v +ℤ y) 1)
        (half_rises (pos (bit_or (x / 2) (bit_and v 128)) +ℤ six_of u +ℤ y)
        (pos (bit_or (x / 2) (bit_and v 128)) +ℤ six_of v +ℤ y)
        (second_rises (six_of u) (six_of v) (pos (bit_or (x / 2) (bit_and v 128))) y six_is)))

    ends_rise : (trend : Trend) (mode place : ℕ) → (mode ≡ 9) ⊎ (mode ≡ 13) → place < 8
        → place % 2 ≢ 0 → EndsRise trend mode place
    unfolding base offset base_with_offset
    ends_rise Rising mode (suc zero) mode_is within odd = elim mode_is [
      | inl is ↦ rw is (λ on. clamped_end a)
      | inr is ↦ rw is (λ on. clamped_end a)
    ]
    ends_rise Rising mode (suc (suc (suc zero))) mode_is within odd = elim mode_is [
      | inl is ↦ rw is (λ on. clamped_end c)
      | inr is ↦ rw is (λ on. clamped_end c)
    ]
    ends_rise Rising mode (suc (suc (suc (suc (suc zero))))) mode_is within odd = elim mode_is [
      | inl is ↦ rw is (λ on. clamped_end e)
      | inr is ↦ rw is (λ on. clamped_end e)
    ]
    ends_rise Rising mode (suc (suc (suc (suc (suc (suc (suc zero))))))) mode_is within odd =
        elim mode_is [
          | inl is ↦ rw is (λ on. clamped_end h)
          | inr is ↦ rw is (λ on. clamped_end h)
        ]
    ends_rise Falling mode (suc zero) mode_is within odd = elim mode_is [
      | inl is ↦ rw is (λ on. half_end a _)
      | inr is ↦ rw is (λ on. half_end a _)
    ]
    ends_rise Falling mode (suc (suc (suc zero))) mode_is within odd = elim mode_is [
      | inl is ↦ rw is (λ on. half_end c _)
      | inr is ↦ rw is (λ on. half_end c _)
    ]
    ends_rise Falling mode (suc (suc (suc (suc (suc zero))))) mode_is within odd =
        λ on. absurd (cc)
    ends_rise Falling mode (suc (suc (suc (suc (suc (suc (suc zero))))))) mode_is within odd =
        elim mode_is [
          | inl is ↦ rw is (λ on. clamped_end h)
          | inr is ↦ rw is (λ on. clamped_end h)
        ]
    ends_rise trend mode zero mode_is within odd = absurd (odd refl)
    ends_rise trend mode (suc (suc zero)) mode_is within odd = absurd (odd refl)
    ends_rise trend mode (suc (suc (suc (suc zero)))) mode_is within odd = absurd (odd refl)
    ends_rise trend mode (suc (suc (suc (suc (suc (suc zero)))))) mode_is within odd =
        absurd (odd refl)
    ends_rise trend mode (suc (suc (suc (suc (suc (suc (suc (suc n)))))))) mode_is within odd =
        absurd (omega (arith, within))

  -- ---- trends

  abbrev Stays : Trend → (extreme mode place : ℕ) → Type 0
  Stays trend extreme mode place = IsTrue (moves_one trend mode (set listed place extreme) place)
      → IsTrue (moves_one trend mode (set listed place u) place)

  all_rise : (mode place : ℕ) → (mode ≡ 9) ⊎ (mode ≡ 13) → place < 8 → place % 2 ≢ 0
      → Stays Rising 64 mode place
  unfolding offset
  all_rise mode (suc zero) mode_is within odd = elim mode_is [
    | inl is ↦ rw is turns
    | inr is ↦ rw is turns
  ]
    where
      turns : int_le (pos 0) (negsuc 31 +ℤ six_of d +ℤ six_of g) ≡ true
          → int_le (pos 0) (six_of u +ℤ six_of d +ℤ six_of g) ≡ true
      turns = still_rises (negsuc 31 +ℤ six_of d +ℤ six_of g)
          (six_of u +ℤ six_of d +ℤ six_of g)
          (first_rises (negsuc 31) (six_of u) (six_of d) (six_of g) (least_offset u))
  all_rise mode (suc (suc (suc zero))) mode_is within odd = elim mode_is [
    | inl is ↦ rw is turns
    | inr is ↦ rw is turns
  ]
    where
      turns : int_le (pos 0) (six_of b +ℤ negsuc 31 +ℤ six_of g) ≡ true
          → int_le (pos 0) (six_of b +ℤ six_of u +ℤ six_of g) ≡ true
      turns = still_rises (six_of b +ℤ negsuc 31 +ℤ six_of g)
          (six_of b +ℤ six_of u +ℤ six_of g)
          (second_rises (negsuc 31) (six_of u) (six_of b) (six_of g) (least_offset u))
  all_rise mode (suc (suc (suc (suc (suc zero))))) mode_is within odd = elim mode_is [
    | inl is ↦ rw is turns
    | inr is ↦ rw is turns
  ]
    where
      turns : int_le (pos 0) (six_of b +ℤ six_of d +ℤ negsuc 31) ≡ true
          → int_le (pos 0) (six_of b +ℤ six_of d +ℤ six_of u) ≡ true
      turns = still_rises (six_of b +ℤ six_of d +ℤ negsuc 31)
          (six_of b +ℤ six_of d +ℤ six_of u)
          (third_rises (negsuc 31) (six_of u) (six_of b) (six_of d) (least_offset u))
  all_rise mode (suc (suc (suc (suc (suc (suc (suc zero))))))) mode_is within odd = elim mode_is [
    | inl is ↦ rw is (λ on. on)
    | inr is ↦ rw is (λ on. on)
  ]
  all_rise mode zero mode_is within odd = absurd (odd refl)
  all_rise mode (suc (suc zero)) mode_is within odd = absurd (odd refl)
  all_rise mode (suc (suc (suc (suc zero)))) mode_is within odd = absurd (odd refl)
  all_rise mode (suc (suc (suc (suc (suc (suc zero)))))) mode_is within odd = absurd (odd refl)
  all_rise mode (suc (suc (suc (suc (suc (suc (suc (suc n)))))))) mode_is within odd =
      absurd (omega (arith, within))

  all_fall : (mode place : ℕ) → (mode ≡ 9) ⊎ (mode ≡ 13) → place < 8 → place % 2 ≢ 0
      → Stays Falling 62 mode place
  unfolding offset
  all_fall mode (suc zero) mode_is within odd = elim mode_is [
    | inl is ↦ rw is turns
    | inr is ↦ rw is turns
  ]
    where
      turns : (if int_le (pos 0) (pos 31 +ℤ six_of d +ℤ six_of g) then false else true) ≡ true
          → (if int_le (pos 0) (six_of u +ℤ six_of d +ℤ six_of g) then false else true) ≡ true
      turns = still_falls (pos 31 +ℤ six_of d +ℤ six_of g)
          (six_of u +ℤ six_of d +ℤ six_of g)
          (first_rises (six_of u) (pos 31) (six_of d) (six_of g) (greatest_offset u))
  all_fall mode (suc (suc (suc zero))) mode_is within odd = elim mode_is [
    | inl is ↦ rw is turns
    | inr is ↦ rw is turns
  ]
    where
      turns : (if int_le (pos 0) (six_of b +ℤ pos 31 +ℤ six_of g) then false else true) ≡ true
          → (if int_le (pos 0) (six_of b +ℤ six_of u +ℤ six_of g) then false else true) ≡ true
      turns = still_falls (six_of b +ℤ pos 31 +ℤ six_of g)
          (six_of b +ℤ six_of u +ℤ six_of g)
          (second_rises (six_of u) (pos 31) (six_of b) (six_of g) (greatest_offset u))
  all_fall mode (suc (suc (suc (suc (suc zero))))) mode_is within odd = λ on. absurd (cc)
  all_fall mode (suc (suc (suc (suc (suc (suc (suc zero))))))) mode_is within odd = elim mode_is [
    | inl is ↦ rw is (λ on. on)
    | inr is ↦ rw is (λ on. on)
  ]
  all_fall mode zero mode_is within odd = absurd (odd refl)
  all_fall mode (suc (suc zero)) mode_is within odd = absurd (odd refl)
  all_fall mode (suc (suc (suc (suc zero)))) mode_is within odd = absurd (odd refl)
  all_fall mode (suc (suc (suc (suc (suc (suc zero)))))) mode_is within odd = absurd (odd refl)
  all_fall mode (suc (suc (suc (suc (suc (suc (suc (suc n)))))))) mode_is within odd =
      absurd (omega (arith, within))

-- ---- of any eight values

module _ (mode place : ℕ) (values : List ℕ) (all : length values ≡ 8)
    (mode_is : (mode ≡ 9) ⊎ (mode ≡ 13)) (within : place < endpoint_integers mode)
    (odd : place % 2 ≢ 0) where
  small : place < 8
  small = elim mode_is [
    | inl is ↦ omega (arith, is, within)
    | inr is ↦ omega (arith, is, within)
  ]

  pub offsets_rise : (trend : Trend) (u v : ℕ) → bit_and u 128 ≡ bit_and v 128 → key u ≤ key v
      → u ≤ 255 → v ≤ 255 → IsTrue (moves_one trend mode (set values place u) place)
      → end_of (is_falling trend) (moved_ends trend mode (set values place u) place)
      ≤ end_of (is_falling trend) (moved_ends trend mode (set values place v) place)
  offsets_rise trend u v top rise u_byte v_byte =
      subst (λ xs. IsTrue (moves_one trend mode (set xs place u) place)
      → end_of (is_falling trend) (moved_ends trend mode (set xs place u) place)
      ≤ end_of (is_falling trend) (moved_ends trend mode (set xs place v) place))
      (sym (eight_entries values all))
      (ends_rise _ _ _ _ _ _ _ _ u v top rise u_byte v_byte trend mode place mode_is small odd)

  pub others_stay : (trend : Trend) (u v : ℕ) → bit_and u 128 ≡ bit_and v 128
      → IsTrue (moves_one trend mode (set values place u) place)
      → other_end_of (is_falling trend) (moved_ends trend mode (set values place u) place)
      ≡ other_end_of (is_falling trend) (moved_ends trend mode (set values place v) place)
  others_stay trend u v top =
      subst (λ xs. IsTrue (moves_one trend mode (set xs place u) place)
      → other_end_of (is_falling trend) (moved_ends trend mode (set xs place u) place)
      ≡ other_end_of (is_falling trend) (moved_ends trend mode (set xs place v) place))
      (sym (eight_entries values all))
      (bases_same _ _ _ _ _ _ _ _ u v top trend mode place mode_is small odd)

  pub offsets_stay : (u : ℕ) → (trend : Trend)
      → IsTrue (moves_one trend mode (set values place (value_against trend)) place)
      → IsTrue (moves_one trend mode (set values place u) place)
  offsets_stay u Rising =
      subst (λ xs. IsTrue (moves_one Rising mode (set xs place 64) place)
      → IsTrue (moves_one Rising mode (set xs place u) place)) (sym (eight_entries values all))
      (all_rise _ _ _ _ _ _ _ _ u u refl mode place mode_is small odd)
  offsets_stay u Falling =
      subst (λ xs. IsTrue (moves_one Falling mode (set xs place 62) place)
      → IsTrue (moves_one Falling mode (set xs place u) place)) (sym (eight_entries values all))
      (all_fall _ _ _ _ _ _ _ _ u u refl mode place mode_is small odd)

-- an offset that is not in a trend is in the other one
pub offset_turned : (trend : Trend) (mode place : ℕ) (values : List ℕ) → (mode ≡ 9) ⊎ (mode ≡ 13)
    → place / 2 ≢ 2 → moves_one trend mode values place ≡ false
    → IsTrue (moves_one (turned trend) mode values place)
offset_turned trend mode place values mode_is other = elim mode_is [
  | inl is ↦ rw is (of_nine trend)
  | inr is ↦ rw is (of_thirteen trend)
]
  where
    flip : (b : Bool) → b ≡ false → (if b then false else true) ≡ true
    flip true off = absurd (cc)
    flip false off = refl

    back : (b : Bool) → (if b then false else true) ≡ false → b ≡ true
    back true is = refl
    back false is = absurd (cc)

    of_nine : (t : Trend) → moves_one t 9 values place ≡ false
        → IsTrue (moves_one (turned t) 9 values place)
    of_nine Rising off = rw (ne_eqb (place / 2) 2 other) (flip _ off)
    of_nine Falling off = back _ (rw (ne_eqb (place / 2) 2 other) at off)

    of_thirteen : (t : Trend) → moves_one t 13 values place ≡ false
        → IsTrue (moves_one (turned t) 13 values place)
    of_thirteen Rising off = rw (ne_eqb (place / 2) 2 other) (flip _ off)
    of_thirteen Falling off = back _ (rw (ne_eqb (place / 2) 2 other) at off)
