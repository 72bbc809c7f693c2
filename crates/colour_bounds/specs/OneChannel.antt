-- Colour integers that move one channel of the endpoints only.
use Rattle.std.specs.Prelude.{◌≡◌, ℕ, ◌+◌, ◌*◌, ◌/◌, ◌==◌, ◌||◌, min, nat_lt, Bool, true, false, if◌then◌else◌, List, slice_index, length, ℤ, pos, ◌+ℤ◌}
use Rattle.std.specs.Int.{int_shr}
use Rattle.astc_model.specs.Endpoints.{base, base_with_offset, clamp_byte, is_ascending, is_rising}
use Rattle.error_tables.specs.Floors.{with_channel}
use Rattle.colour_bounds.specs.declared.one_channel.Trend.{Trend}
use Rattle.colour_bounds.specs.declared.one_channel.Trend.TheVariants.{Rising, Falling}

-- whether an endpoint mode is a base with a scale
abbrev pub is_scaling : ℕ → Bool
is_scaling mode = (mode == 6) || (mode == 10)

-- whether an endpoint mode is a base with signed offsets
abbrev pub is_offsetting : ℕ → Bool
is_offsetting mode = (mode == 9) || (mode == 13)

-- whether an endpoint mode encodes two colours and exchanges them if the second has the smaller sum
abbrev pub is_exchanging : ℕ → Bool
is_exchanging mode = (mode == 8) || (mode == 12)

-- whether the decoder exchanges the endpoints: the second colour has the smaller sum, or the sum of
-- the offsets is negative
abbrev pub do_fall : (mode : ℕ) → List ℕ → Bool
do_fall mode values =
    if is_exchanging mode then (if is_ascending (slice_index values) then false else true) else
    if is_offsetting mode then (if is_rising (slice_index values) then false else true) else
    false

-- whether the mode can exchange the endpoints and does not
abbrev pub do_rise : (mode : ℕ) → List ℕ → Bool
do_rise mode values =
    if is_exchanging mode then is_ascending (slice_index values) else
    if is_offsetting mode then is_rising (slice_index values) else
    false

-- whether the integer at `place` moves one channel only, with values that have this trend; false if
-- they have the other trend
abbrev pub moves_one : Trend → (mode : ℕ) → List ℕ → ℕ → Bool
moves_one Rising mode values place =
    if is_scaling mode then (if place == 3 then false else true) else do_rise mode values
moves_one Falling mode values place = if place / 2 == 2 then false else do_fall mode values

-- the channel that the integer at `place` moves
abbrev pub moved_channel : (mode place : ℕ) → ℕ
moved_channel mode place = if is_scaling mode then min place 3 else place / 2

-- both colours in one channel, before exchange and blue contraction; the values of the channel
-- begin at `at`
abbrev pub two_at : (mode : ℕ) → List ℕ → ℕ → ℤ × ℤ
two_at mode values at =
    if is_exchanging mode
    then (pos (slice_index values at), pos (slice_index values (at + 1)))
    else (base (slice_index values) at, base_with_offset (slice_index values) at)

-- the two endpoints in the channel that the integer at `place` moves
abbrev pub moved_ends : Trend → (mode : ℕ) → List ℕ → ℕ → ℕ × ℕ
moved_ends Rising mode values place =
    if is_scaling mode
    then (
    if nat_lt place 4
    then (slice_index values place * slice_index values 3 / 256, slice_index values place)
    else (slice_index values 4, slice_index values 5)
    )
    else if is_exchanging mode
    then (slice_index values (2 * (place / 2)), slice_index values (2 * (place / 2) + 1))
    else (
      clamp_byte (base (slice_index values) (2 * (place / 2))),
      clamp_byte
          (base_with_offset (slice_index values) (2 * (place / 2))),
    )
moved_ends Falling mode values place =
    if place / 2 == 3
    then (clamp_byte (two_at mode values 6).1, clamp_byte (two_at mode values 6).0)
    else (
      clamp_byte (int_shr ((two_at mode values (2 * (place / 2))).1 +ℤ (two_at mode values 4).1) 1),
      clamp_byte (int_shr ((two_at mode values (2 * (place / 2))).0 +ℤ (two_at mode values 4).0) 1),
    )

-- the endpoints are `kept` with channel c replaced
pub record MovesOne (c : ℕ) (pair : ℕ × ℕ) (ends kept : List ℕ × List ℕ) : Type 0 where
  pub is : ends ≡ with_channel c pair kept
  pub first_four : length kept.0 ≡ 4
  pub second_four : length kept.1 ≡ 4
