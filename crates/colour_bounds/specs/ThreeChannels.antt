-- Colour integers that move red, green and blue of one endpoint and nothing else.
use Rattle.std.specs.Prelude.{ℕ, ◌+◌, ◌*◌, ◌/◌, ◌%◌, ◌≤◌, ◌^◌, ◌==◌, Bool, false, if◌then◌else◌, List, [], ◌∷◌, slice_index, pos, ◌+ℤ◌}
use Rattle.std.specs.Int.{int_shr}
use Rattle.astc_model.specs.Endpoints.{clamp_byte}
use Rattle.astc_model.specs.Places.{channel}
use Rattle.colour_bounds.specs.OneChannel.{is_scaling, is_exchanging, do_fall}
use Rattle.colour_bounds.specs.declared.three_channels.OneEnd.{OneEnd}
use Rattle.colour_bounds.specs.declared.three_channels.ThreeChannels.{ThreeChannels}

-- whether the integer at `place` moves red, green and blue of one endpoint only: it is the scale,
-- or a blue value while the decoder exchanges the endpoints
abbrev pub moves_three : (mode : ℕ) → List ℕ → ℕ → Bool
moves_three mode values place =
    if is_scaling mode then place == 3 else
    if is_exchanging mode then (if place / 2 == 2 then do_fall mode values else false) else
    false

-- red, green and blue of the endpoint that the integer moves
abbrev pub moved_red : (mode : ℕ) → List ℕ → ℕ → ℕ
moved_red mode values place =
    if is_scaling mode then slice_index values 0 * slice_index values 3 / 256 else
    clamp_byte (int_shr (pos (slice_index values (place % 2)) +ℤ pos (slice_index values place)) 1)

abbrev pub moved_green : (mode : ℕ) → List ℕ → ℕ → ℕ
moved_green mode values place =
    if is_scaling mode then slice_index values 1 * slice_index values 3 / 256 else
    clamp_byte (int_shr (pos (slice_index values (2 + place % 2)) +ℤ pos (slice_index values place))
    1)

abbrev pub moved_blue : (mode : ℕ) → List ℕ → ℕ → ℕ
moved_blue mode values place =
    if is_scaling mode then slice_index values 2 * slice_index values 3 / 256 else
    clamp_byte (pos (slice_index values place))

-- the endpoints with red, green and blue of the first one replaced if `place` is odd, else those of
-- the second
abbrev pub with_colour_at : (place red green blue : ℕ) → List ℕ × List ℕ → List ℕ × List ℕ
with_colour_at place red green blue ends =
    if place % 2 == 1
    then (red ∷ green ∷ blue ∷ channel 3 ends.0 ∷ [], ends.1)
    else (ends.0, red ∷ green ∷ blue ∷ channel 3 ends.1 ∷ [])

-- the term of a channel in the form, as a function of one endpoint, is `end_more` minus `end_less`
abbrev pub end_more : OneEnd → ℕ → ℕ
end_more one end = one.square * (end * end) + one.slope * end

abbrev pub end_less : OneEnd → ℕ → ℕ
end_less one end = one.less_slope * end

-- the form with these three channels is `three_more` minus `three_less`
abbrev pub three_more : ThreeChannels → (red green blue : ℕ) → ℕ
three_more three red green blue =
    end_more three.red red + end_more three.green green + end_more three.blue blue + three.start

abbrev pub three_less : ThreeChannels → (red green blue : ℕ) → ℕ
three_less three red green blue =
    end_less three.red red + end_less three.green green + end_less three.blue blue
    + three.less_start

-- the coefficients are within the ranges of the forms of partitions
pub record IsSmallEnd (one : OneEnd) : Type 0 where
  pub small_square : one.square ≤ 2 ^ 41
  pub small_slope : one.slope ≤ 255 * 2 ^ 41
  pub small_less_slope : one.less_slope ≤ 2 ^ 49

pub record IsSmallThree (three : ThreeChannels) : Type 0 where
  pub small_red : IsSmallEnd three.red
  pub small_green : IsSmallEnd three.green
  pub small_blue : IsSmallEnd three.blue
  pub small_start : three.start ≤ 3 * (65025 * 2 ^ 41 + 2 ^ 62)
  pub small_less_start : three.less_start ≤ 3 * (255 * 2 ^ 49 + 2 ^ 61)
