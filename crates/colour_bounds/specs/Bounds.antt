-- Bounds on the form of a partition by the value of one colour integer. The form is a lower bound
-- on the error (`moments`); the place of an integer is its index among those of its partition.
use Rattle.std.specs.Prelude.{◌≡◌, ◌⊎◌, ℕ, ◌+◌, ◌-◌, ◌*◌, ◌%◌, ◌^◌, ◌<◌, ◌≤◌, ◌==◌, ◌||◌, nat_le, if◌then◌else◌, List, [], ◌∷◌, take, slice_index, slice_set, sum_by, IfSome, IsTrue}
use Rattle.astc_model.specs.Endpoints.{endpoint_integers, endpoint_colours, luminance_direct, luminance_alpha_direct}
use Rattle.error_tables.specs.ChannelForms.{one_more, one_less, IsSmallOne}
use Rattle.error_tables.specs.Floors.{form_more, form_less, channel_part, channel_more, channel_less}
use Rattle.moments.specs.declared.Form.{Form}
use Rattle.error_tables.specs.declared.channel_forms.OneChannel.{OneChannel}
use Rattle.error_tables.specs.Trials.{coloured}
use Rattle.error_tables.specs.RowFloors.{AreForms}
use Rattle.colour_bounds.specs.Curves.{IsSmallCurve, IsOnCurve}
use Rattle.colour_bounds.specs.OneChannel.{is_exchanging, moves_one, moved_channel, moved_ends}
use Rattle.colour_bounds.specs.ThreeChannels.{moves_three, moved_red, moved_green, moved_blue, three_more, three_less, IsSmallThree}
use Rattle.colour_bounds.specs.declared.one_channel.Trend.{Trend}
use Rattle.colour_bounds.specs.declared.one_channel.Trend.TheVariants.{Rising, Falling}
use Rattle.colour_bounds.specs.declared.bounds.ValueBounds.{ValueBounds}
use Rattle.colour_bounds.specs.declared.part_scan.PartitionScan.{PartitionScan}
use Rattle.colour_bounds.specs.declared.three_channels.ThreeChannels.{ThreeChannels}

-- the endpoints of a partition with another value at `place`
abbrev pub ends_of : (mode : ℕ) → List ℕ → (place value : ℕ) → List ℕ × List ℕ
ends_of mode values place value =
    endpoint_colours mode (slice_set (take (endpoint_integers mode) values) place value)

-- the two colours of an endpoint mode that encodes them directly, without exchange
abbrev pub in_order : (mode : ℕ) → List ℕ → List ℕ × List ℕ
in_order mode values =
    if mode == 0 then luminance_direct (slice_index values) else
    if mode == 4 then luminance_alpha_direct (slice_index values) else
    if mode == 12
    then (
      slice_index values 0 ∷ slice_index values 2 ∷ slice_index values 4 ∷ slice_index values 6
          ∷ [],
      slice_index values 1 ∷ slice_index values 3 ∷ slice_index values 5 ∷ slice_index values 7
          ∷ [],
    )
    else (
      slice_index values 0 ∷ slice_index values 2 ∷ slice_index values 4 ∷ 255 ∷ [],
      slice_index values 1 ∷ slice_index values 3 ∷ slice_index values 5 ∷ 255 ∷ [],
    )

-- the sums of red, green and blue of the first and of the second colour
abbrev pub first_sum : List ℕ → ℕ
first_sum values = slice_index values 0 + slice_index values 2 + slice_index values 4

abbrev pub second_sum : List ℕ → ℕ
second_sum values = slice_index values 1 + slice_index values 3 + slice_index values 5

-- the range of values at `place`, from the first up to the second number (exclusive), with which
-- the second colour has at least the sum of the first; `first` and `second` are the sums with 0 at
-- `place`
abbrev pub order_by_sums : (place first second : ℕ) → ℕ × ℕ
order_by_sums place first second =
    if nat_le 6 place then (if nat_le first second then (0, 256) else (0, 0)) else
    if place % 2 == 0 then (0, second + 1 - first) else
    (first - second, 256)

-- the range of values at `place`, from the first up to the second number (exclusive), with which
-- the endpoints are the two colours in order
abbrev pub order_of : (mode : ℕ) → List ℕ → (place : ℕ) → ℕ × ℕ
order_of mode values place =
    if (mode == 0) || (mode == 4) then (0, 256) else
    if is_exchanging mode then order_by_sums place (first_sum (slice_set values place 0))
    (second_sum (slice_set values place 0)) else
    (0, 0)

-- the share in the error of the one channel that the integer at `place` moves, with a value that
-- has this trend
abbrev pub single_channel_of : PartitionScan → Trend → (place value : ℕ) → ℕ
single_channel_of scan trend place value = slice_index scan.tables.now.weights
    (moved_channel scan.cem place)
    * sum_by (channel_part scan.tables.now (moved_channel scan.cem place)
    (moved_ends trend scan.cem (slice_set scan.values place value) place).0
    (moved_ends trend scan.cem (slice_set scan.values place value) place).1) scan.reach.now

-- `kept` is the present share in the error of the one channel that the integer moves while the
-- values have this trend
pub record IsSingleChannel (scan : PartitionScan) (trend : Trend) (place kept : ℕ) : Type 0 where
  pub within : kept ≤ scan.floor.taken
  pub moves : (value : ℕ)
      → IsTrue (moves_one trend scan.cem (slice_set scan.values place value) place)
      → sum_by (coloured scan.tables.now (ends_of scan.cem scan.values place value))
      scan.reach.now + kept ≡ scan.floor.taken + single_channel_of scan trend place value

-- the form of a partition without the one channel that the integer at `place` moves
pub record IsOthersForm (scan : PartitionScan) (trend : Trend) (place : ℕ)
    (others : Form) : Type 0 where
  pub small_more : others.more ≤ 2 ^ 61
  pub small_less : others.less ≤ 2 ^ 61
  pub within : moved_channel scan.cem place < 4
  pub more_is : (value : ℕ)
      → IsTrue (moves_one trend scan.cem (slice_set scan.values place value) place)
      → form_more scan.tables.now scan.floor (ends_of scan.cem scan.values place value)
      ≡ others.more + channel_more scan.tables.now scan.floor (moved_channel scan.cem place)
      (moved_ends trend scan.cem (slice_set scan.values place value) place).0
      (moved_ends trend scan.cem (slice_set scan.values place value) place).1
  pub less_is : (value : ℕ)
      → IsTrue (moves_one trend scan.cem (slice_set scan.values place value) place)
      → form_less scan.tables.now scan.floor (ends_of scan.cem scan.values place value)
      ≡ others.less + channel_less scan.tables.now scan.floor (moved_channel scan.cem place)
      (moved_ends trend scan.cem (slice_set scan.values place value) place).0
      (moved_ends trend scan.cem (slice_set scan.values place value) place).1

-- the form of a partition as a function of the endpoints of the one channel that the integer at
-- `place` moves
pub record AreOthers (scan : PartitionScan) (trend : Trend) (place : ℕ)
    (others : OneChannel) : Type 0 where
  pub small : IsSmallOne others
  pub more_is : (value : ℕ)
      → IsTrue (moves_one trend scan.cem (slice_set scan.values place value) place)
      → form_more scan.tables.now scan.floor (ends_of scan.cem scan.values place value)
      ≡ one_more others (moved_ends trend scan.cem (slice_set scan.values place value) place).0
      (moved_ends trend scan.cem (slice_set scan.values place value) place).1
  pub less_is : (value : ℕ)
      → IsTrue (moves_one trend scan.cem (slice_set scan.values place value) place)
      → form_less scan.tables.now scan.floor (ends_of scan.cem scan.values place value)
      ≡ one_less others (moved_ends trend scan.cem (slice_set scan.values place value) place).0
      (moved_ends trend scan.cem (slice_set scan.values place value) place).1

-- the form of a partition as a function of the red, green and blue that the integer at `place`
-- moves
pub record AreThree (scan : PartitionScan) (place : ℕ) (three : ThreeChannels) : Type 0 where
  pub small : IsSmallThree three
  pub more_is : (value : ℕ)
      → IsTrue (moves_three scan.cem (slice_set scan.values place value) place)
      → form_more scan.tables.now scan.floor (ends_of scan.cem scan.values place value)
      ≡ three_more three (moved_red scan.cem (slice_set scan.values place value) place)
      (moved_green scan.cem (slice_set scan.values place value) place)
      (moved_blue scan.cem (slice_set scan.values place value) place)
  pub less_is : (value : ℕ)
      → IsTrue (moves_three scan.cem (slice_set scan.values place value) place)
      → form_less scan.tables.now scan.floor (ends_of scan.cem scan.values place value)
      ≡ three_less three (moved_red scan.cem (slice_set scan.values place value) place)
      (moved_green scan.cem (slice_set scan.values place value) place)
      (moved_blue scan.cem (slice_set scan.values place value) place)

-- the bounds hold for the integer at `place`: each of their parts gives the form, or a lower bound
-- on it
pub record AreValueBounds (scan : PartitionScan) (place : ℕ) (bounds : ValueBounds) : Type 0 where
  pub small_curve : IsSmallCurve bounds.curve
  pub on : (value : ℕ) → bounds.from ≤ value → value < bounds.before
      → IsOnCurve scan.tables.now scan.floor bounds.curve value
      (ends_of scan.cem scan.values place value)
  pub off : (value : ℕ) → value ≤ 255 → (value < bounds.from) ⊎ (bounds.before ≤ value)
      → AreForms scan.tables.now scan.floor (ends_of scan.cem scan.values place value)
      → form_less scan.tables.now scan.floor
      (ends_of scan.cem scan.values place value) + bounds.least
      ≤ form_more scan.tables.now scan.floor (ends_of scan.cem scan.values place value)
  pub from_is : bounds.from ≡ (order_of scan.cem scan.values place).0
  pub before_is : bounds.before ≡ (order_of scan.cem scan.values place).1
  pub single : IfSome bounds.single (IsSingleChannel scan Rising place)
  pub rising : IfSome bounds.rising (AreOthers scan Rising place)
  pub falling : IfSome bounds.falling (AreOthers scan Falling place)
  pub three : IfSome bounds.three (AreThree scan place)
