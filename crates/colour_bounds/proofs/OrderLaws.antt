-- The ranks at the positions of an order, and the order of the offsets.
use Rattle.std.proofs.Common.{◌≡◌, ◌⊎◌, ℕ, ◌+◌, ◌-◌, ◌/◌, ◌%◌, ◌<◌, ◌≤◌, refl, sym, ap, subst, ◌∙◌, arith, inl, inr}
use Rattle.std.proofs.lemmas.Bool.{cases_lt, lt-ltb, le-ltb}
use Rattle.astc_model.specs.ColourValues.{colour_value}
use Rattle.astc_model.specs.Levels.{count_of}
use Rattle.astc_model.specs.declared.level.Level.{Level}
use Rattle.quant_tables.proofs.ValueLaws.{colour_value-le}
use Rattle.colour_bounds.specs.Orders.{IsOrder, rank_on, position_of, integer_on, whole_order, half_order}
use Rattle.colour_bounds.specs.OwnWalks.{other_half}
use Rattle.colour_bounds.specs.Ranks.{integer_at, rank_of}
use Rattle.colour_bounds.specs.declared.orders.WalkOrder.{WalkOrder}
use Rattle.colour_bounds.proofs.RankLaws.{integer_range, rank_of_integer, integer_of_rank, values_rise, even_count, first_quarter, second_quarter, third_quarter, fourth_quarter}

-- ---- positions

module _ (order : WalkOrder) (at : ℕ) where
  pub early : order.turn + at < order.count → rank_on order at ≡ order.from + (order.turn + at)
  early low = rw (lt-ltb (order.turn + at) order.count low) refl

  pub late : order.count ≤ order.turn + at
      → rank_on order at ≡ order.from + (order.turn + at - order.count)
  late high = rw (le-ltb (order.turn + at) order.count high) refl

pub rank_within : (order : WalkOrder) (at : ℕ) → order.turn < order.count → at < order.count
    → (order.from ≤ rank_on order at) × (rank_on order at < order.from + order.count)
rank_within order at turns within =
    elim (cases_lt (order.turn + at) order.count) [
      | inl low ↦ let is = early order at low in (omega (arith, is), omega (arith, is, low))
      | inr high ↦
          let is = late order at high in
          (omega (arith, is), omega (arith, is, high, turns, within))
    ]

-- two positions have different ranks
pub one_position : (order : WalkOrder) (j k : ℕ) → order.turn < order.count → j < order.count
    → k < order.count → rank_on order j ≡ rank_on order k → j ≡ k
one_position order j k turns first second same =
    elim (cases_lt (order.turn + j) order.count) [
      | inl low ↦ elim (cases_lt (order.turn + k) order.count) [
        | inl also ↦
            let a = early order j low in
            let b = early order k also in
            omega (arith, a, b, same)
        | inr high ↦
            let a = early order j low in
            let b = late order k high in
            absurd (omega (arith, a, b, same, high, second, turns))
      ]
      | inr high ↦ elim (cases_lt (order.turn + k) order.count) [
        | inl low ↦
            let a = late order j high in
            let b = early order k low in
            absurd (omega (arith, a, b, same, high, first, turns))
        | inr also ↦
            let a = late order j high in
            let b = late order k also in
            omega (arith, a, b, same, high, also)
      ]
    ]

-- each rank of an order has a position
pub position_is : (order : WalkOrder) (rank : ℕ) → order.turn < order.count → order.from ≤ rank
    → rank < order.from + order.count
    → (position_of order rank < order.count) × (rank_on order (position_of order rank) ≡ rank)
position_is order rank turns from before =
    elim (cases_lt (rank - order.from) order.turn) [
      | inl low ↦
          let is : position_of order rank ≡ rank - order.from + order.count - order.turn =
          rw (lt-ltb (rank - order.from) order.turn low) refl in
          let high : order.count ≤ order.turn + position_of order rank =
          omega (arith, is, turns) in
          let at = late order (position_of order rank) high in
          (omega (arith, is, low, turns), omega (arith, is, at, turns, from))
      | inr high ↦
          let is : position_of order rank ≡ rank - order.from - order.turn =
          rw (le-ltb (rank - order.from) order.turn high) refl in
          let low : order.turn + position_of order rank < order.count =
          omega (arith, is, high, from, before, turns) in
          let at = early order (position_of order rank) low in
          (omega (arith, is, high, from, before, turns), omega (arith, is, at, high, from))
    ]

-- ---- integers

module _ (level : Level) (order : WalkOrder) (is : IsOrder (count_of level) order)
    (some : 6 ≤ count_of level) where
  pub rank_below : (at : ℕ) → at < order.count → rank_on order at < count_of level
  rank_below at within =
      let both = rank_within order at is.turns within in omega (arith, both.1, is.fits)

  pub integer_below : (at : ℕ) → at < order.count
      → integer_on (count_of level) order at < count_of level
  integer_below at within = integer_range level (rank_on order at) some (rank_below at within)

  pub rank_of_position : (at : ℕ) → at < order.count
      → rank_of (count_of level) (integer_on (count_of level) order at) ≡ rank_on order at
  rank_of_position at within =
      rank_of_integer level (rank_on order at) some (rank_below at within)

  -- an integer with a rank of the order is at the position of this rank
  pub integer_is : (value : ℕ) → value < count_of level
      → order.from ≤ rank_of (count_of level) value
      → rank_of (count_of level) value < order.from + order.count
      → integer_on (count_of level) order (position_of order (rank_of (count_of level) value))
      ≡ value
  integer_is value range from before =
      let at = position_is order (rank_of (count_of level) value) is.turns from before in
      ap (integer_at (count_of level)) at.1 ∙ integer_of_rank level value some range

-- ---- all values

pub whole_is : (count : ℕ) → 6 ≤ count → IsOrder count (whole_order count)
whole_is count some = record { fits = omega arith; turns = omega (arith, some) }

pub whole_rank : (count at : ℕ) → at < count → rank_on (whole_order count) at ≡ at
whole_rank count at within = early (whole_order count) at (omega (arith, within)) ∙ omega arith

-- ---- the values with the same top bit, in the order of the offsets

-- the key of a value: a number that rises with the offset that the value encodes
abbrev pub key : ℕ → ℕ
key value = (value + 64) % 128

module _ (level : Level) (some : 6 ≤ count_of level) where
  abbrev count : ℕ
  count = count_of level

  abbrev byte_at : ℕ → ℕ
  byte_at rank = colour_value level (integer_at count rank)

  even : count % 2 ≡ 0
  even = even_count level 0 some (omega (arith, some))

  abbrev low_order : WalkOrder
  low_order = record { from = 0; turn = (count + 3) / 4; count = count / 2 }

  abbrev high_order : WalkOrder
  high_order = record {
    from = count / 2;
    turn = count / 2 - (count + 3) / 4;
    count = count / 2;
  }

  pub low_half : (rank : ℕ) → rank < count / 2 → half_order count rank ≡ low_order
  low_half rank low = rw (lt-ltb rank (count / 2) low) refl

  pub high_half : (rank : ℕ) → count / 2 ≤ rank → half_order count rank ≡ high_order
  high_half rank high = rw (le-ltb rank (count / 2) high) refl

  low_is : IsOrder count low_order
  low_is = record { fits = omega arith; turns = omega (arith, some) }

  high_is : IsOrder count high_order
  high_is = record { fits = omega arith; turns = omega (arith, some) }

  pub half_is : (rank : ℕ) → IsOrder count (half_order count rank)
  half_is rank =
      elim (cases_lt rank (count / 2)) [
        | inl low ↦ rw (low_half rank low) low_is
        | inr high ↦ rw (high_half rank high) high_is
      ]

  pub half_has : (rank : ℕ) → rank < count → ((half_order count rank).from ≤ rank)
      × (rank < (half_order count rank).from + (half_order count rank).count)
  half_has rank range =
      elim (cases_lt rank (count / 2)) [
        | inl low ↦ rw (low_half rank low) (omega arith, omega (arith, low))
        | inr high ↦ rw (high_half rank high) (omega (arith, high), omega (arith, range, even))
      ]

  -- the top bit of the values in the lower half of the ranks is 0
  pub low_values : (rank : ℕ) → rank < count / 2 → byte_at rank < 128
  low_values rank low =
      elim (cases_lt rank ((count + 3) / 4)) [
        | inl first ↦
            let is = first_quarter level rank some (omega (arith, low)) first in
            omega (arith, is)
        | inr second ↦
            let is = second_quarter level rank some (omega (arith, low)) second low in
            omega (arith, is)
      ]

  pub high_values : (rank : ℕ) → rank < count → count / 2 ≤ rank → 128 ≤ byte_at rank
  high_values rank range high =
      elim (cases_lt rank (count - (count + 3) / 4)) [
        | inl third ↦
            let is = third_quarter level rank some range high third in
            omega (arith, is)
        | inr fourth ↦
            let is = fourth_quarter level rank some range fourth in
            omega (arith, is)
      ]

  byte-le : (rank : ℕ) → rank < count → byte_at rank ≤ 255
  byte-le rank range =
      colour_value-le level (integer_at count rank) (integer_range level rank some range)

  abbrev quarter : ℕ
  quarter = (count + 3) / 4

  low_keys : (r s : ℕ) → r < count / 2 → s < count / 2 → (r < quarter → s < quarter)
      → (r < quarter → r ≤ s) → (quarter ≤ s → r ≤ s)
      → key (byte_at r) ≤ key (byte_at s)
  low_keys r s low also stays before behind =
      elim (cases_lt r quarter) [
        | inl first ↦
            let a = first_quarter level r some (omega (arith, low)) first in
            let b = first_quarter level s some (omega (arith, also)) (stays first) in
            let rise = values_rise level r s some (before first) (omega (arith, also)) in
            omega (arith, a, b, rise)
        | inr second ↦ elim (cases_lt s quarter) [
          | inl first ↦
              let a = second_quarter level r some (omega (arith, low)) second low in
              let b = first_quarter level s some (omega (arith, also)) first in
              omega (arith, a, b)
          | inr last ↦
              let a = second_quarter level r some (omega (arith, low)) second low in
              let b = second_quarter level s some (omega (arith, also)) last also in
              let rise = values_rise level r s some (behind last) (omega (arith, also)) in
              omega (arith, a, b, rise)
        ]
      ]

  abbrev fourth : ℕ
  fourth = count - (count + 3) / 4

  high_keys : (r s : ℕ) → r < count → s < count → count / 2 ≤ r → count / 2 ≤ s
      → (r < fourth → s < fourth) → (r < fourth → r ≤ s) → (fourth ≤ s → r ≤ s)
      → key (byte_at r) ≤ key (byte_at s)
  high_keys r s range also high too stays before behind =
      let x = byte-le r range in
      let y = byte-le s also in
      elim (cases_lt r fourth) [
        | inl third ↦
            let a = third_quarter level r some range high third in
            let b = third_quarter level s some also too (stays third) in
            let rise = values_rise level r s some (before third) also in
            omega (arith, a, b, rise)
        | inr last ↦ elim (cases_lt s fourth) [
          | inl third ↦
              let a = fourth_quarter level r some range last in
              let b = third_quarter level s some also too third in
              omega (arith, a, b, x)
          | inr behind_it ↦
              let a = fourth_quarter level r some range last in
              let b = fourth_quarter level s some also behind_it in
              let rise = values_rise level r s some (behind behind_it) also in
              omega (arith, a, b, rise, x, y)
        ]
      ]

  low_rises : (j k : ℕ) → j ≤ k → k < count / 2
      → key (byte_at (rank_on low_order j)) ≤ key (byte_at (rank_on low_order k))
  low_rises j k order within =
      elim (cases_lt (quarter + j) (count / 2)) [
        | inl first ↦ elim (cases_lt (quarter + k) (count / 2)) [
          | inl also ↦
              low_at (quarter + j) (quarter + k) (early low_order j first)
              (early low_order k also) first also (λ low. absurd (omega (arith, low)))
              (λ low. omega (arith, order)) (λ high. omega (arith, order))
          | inr last ↦
              low_at (quarter + j) (quarter + k - count / 2) (early low_order j first)
              (late low_order k last) first (omega (arith, within, some))
              (λ low. absurd (omega (arith, low))) (λ low. absurd (omega (arith, low)))
              (λ high. absurd (omega (arith, high, within, some)))
        ]
        | inr high ↦ elim (cases_lt (quarter + k) (count / 2)) [
          | inl low ↦ absurd (omega (arith, high, low, order))
          | inr last ↦
              low_at (quarter + j - count / 2) (quarter + k - count / 2)
              (late low_order j high) (late low_order k last) (omega (arith, order, within, some))
              (omega (arith, within, some)) (λ low. omega (arith, within, some))
              (λ low. omega (arith, order)) (λ behind. omega (arith, order))
        ]
      ]
    where
      low_at : (r s : ℕ) → rank_on low_order j ≡ 0 + r → rank_on low_order k ≡ 0 + s
          → r < count / 2 → s < count / 2 → (r < quarter → s < quarter)
          → (r < quarter → r ≤ s) → (quarter ≤ s → r ≤ s)
          → key (byte_at (rank_on low_order j)) ≤ key (byte_at (rank_on low_order k))
      low_at r s r_is s_is low also stays before behind =
          subst (λ n. key (byte_at n) ≤ key (byte_at (rank_on low_order k)))
          (sym (r_is ∙ omega arith))
          (subst (λ n. key (byte_at r) ≤ key (byte_at n)) (sym (s_is ∙ omega arith))
          (low_keys r s low also stays before behind))

  abbrev turn : ℕ
  turn = count / 2 - (count + 3) / 4

  high_rises : (j k : ℕ) → j ≤ k → k < count / 2
      → key (byte_at (rank_on high_order j)) ≤ key (byte_at (rank_on high_order k))
  high_rises j k order within =
      elim (cases_lt (turn + j) (count / 2)) [
        | inl first ↦ elim (cases_lt (turn + k) (count / 2)) [
          | inl also ↦
              high_at (count / 2 + (turn + j)) (count / 2 + (turn + k)) (early high_order j first)
              (early high_order k also) (omega (arith, first)) (omega (arith, also)) (omega arith)
              (omega arith) (λ low. absurd (omega (arith, low, some, even)))
              (λ low. omega (arith, order)) (λ high. omega (arith, order))
          | inr last ↦
              high_at (count / 2 + (turn + j)) (count / 2 + (turn + k - count / 2))
              (early high_order j first) (late high_order k last) (omega (arith, first))
              (omega (arith, within, some, even)) (omega arith) (omega arith)
              (λ low. absurd (omega (arith, low, some, even)))
              (λ low. absurd (omega (arith, low, some, even)))
              (λ high. absurd (omega (arith, high, within, some, even)))
        ]
        | inr high ↦ elim (cases_lt (turn + k) (count / 2)) [
          | inl low ↦ absurd (omega (arith, high, low, order))
          | inr last ↦
              high_at (count / 2 + (turn + j - count / 2)) (count / 2 + (turn + k - count / 2))
              (late high_order j high) (late high_order k last)
              (omega (arith, order, within, some, even)) (omega (arith, within, some, even))
              (omega arith) (omega arith) (λ low. omega (arith, within, some, even))
              (λ low. omega (arith, order)) (λ behind. omega (arith, order))
        ]
      ]
    where
      high_at : (r s : ℕ) → rank_on high_order j ≡ r → rank_on high_order k ≡ s → r < count
          → s < count → count / 2 ≤ r → count / 2 ≤ s → (r < fourth → s < fourth)
          → (r < fourth → r ≤ s) → (fourth ≤ s → r ≤ s)
          → key (byte_at (rank_on high_order j)) ≤ key (byte_at (rank_on high_order k))
      high_at r s r_is s_is range also high too stays before behind =
          subst (λ n. key (byte_at n) ≤ key (byte_at (rank_on high_order k))) (sym r_is)
          (subst (λ n. key (byte_at r) ≤ key (byte_at n)) (sym s_is)
          (high_keys r s range also high too stays before behind))

  -- the keys, and so the offsets, rise with the positions
  pub keys_rise : (rank j k : ℕ) → j ≤ k → k < (half_order count rank).count
      → key (byte_at (rank_on (half_order count rank) j))
      ≤ key (byte_at (rank_on (half_order count rank) k))
  keys_rise rank j k order =
      elim (cases_lt rank (count / 2)) [
        | inl low ↦ rw (low_half rank low) (low_rises j k order)
        | inr high ↦ rw (high_half rank high) (high_rises j k order)
      ]

  -- the values of one half of the ranks have the same top bit, those of the other half the other
  low_top : (rank : ℕ) → rank < count / 2 → byte_at rank / 128 ≡ 0
  low_top rank low = omega (arith, low_values rank low)

  high_top : (rank : ℕ) → rank < count → count / 2 ≤ rank → byte_at rank / 128 ≡ 1
  high_top rank range high = omega (arith, high_values rank range high, byte-le rank range)

  pub half_top : (rank at : ℕ) → rank < count → at < (half_order count rank).count
      → byte_at (rank_on (half_order count rank) at) / 128 ≡ byte_at rank / 128
  half_top rank at range =
      elim (cases_lt rank (count / 2)) [
        | inl low ↦ rw (low_half rank low) (λ within.
            let both = rank_within low_order at low_is.turns within in
            low_top (rank_on low_order at) (omega (arith, both.1)) ∙ sym (low_top rank low))
        | inr high ↦ rw (high_half rank high) (λ within.
            let both = rank_within high_order at high_is.turns within in
            high_top (rank_on high_order at) (omega (arith, both.1)) (omega (arith, both.0))
            ∙ sym (high_top rank range high))
      ]

  low_others : (rank : ℕ) → rank < count / 2 → other_half (byte_at rank) / 128 ≡ 1
  low_others rank low = ap (λ n. n / 128) (low_value (byte_at rank) (low_values rank low))
    where
      low_value : (n : ℕ) → n < 128 → other_half n ≡ 255
      low_value n small = rw (lt-ltb n 128 small) refl

  high_others : (rank : ℕ) → rank < count → count / 2 ≤ rank
      → other_half (byte_at rank) / 128 ≡ 0
  high_others rank range high =
      ap (λ n. n / 128) (high_value (byte_at rank) (high_values rank range high))
    where
      high_value : (n : ℕ) → 128 ≤ n → other_half n ≡ 0
      high_value n large = rw (le-ltb n 128 large) refl

  pub other_top : (rank other : ℕ) → rank < count → other < count
      → (other < (half_order count rank).from)
      ⊎ ((half_order count rank).from + (half_order count rank).count ≤ other)
      → byte_at other / 128 ≡ other_half (byte_at rank) / 128
  other_top rank other range also =
      elim (cases_lt rank (count / 2)) [
        | inl low ↦ rw (low_half rank low) (λ out. elim out [
          | inl below ↦ absurd (omega (arith, below))
          | inr above ↦ high_top other also (omega (arith, above)) ∙ sym (low_others rank low)
        ])
        | inr high ↦ rw (high_half rank high) (λ out. elim out [
          | inl below ↦ low_top other (omega (arith, below)) ∙ sym (high_others rank range high)
          | inr above ↦ absurd (omega (arith, above, also, even))
        ])
      ]
