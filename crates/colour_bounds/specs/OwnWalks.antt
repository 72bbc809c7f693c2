-- Walks over the values of a colour integer that moves one channel only.
use Rattle.std.specs.Prelude.{◌≡◌, ◌≢◌, ◌⊎◌, ℕ, ◌+◌, ◌*◌, ◌^◌, ◌<◌, ◌≤◌, nat_lt, Bool, true, false, if◌then◌else◌, List, length, Option, None, Some, slice_index, slice_set, IsTrue}
use Rattle.astc_model.specs.ColourValues.{colour_value}
use Rattle.astc_model.specs.Levels.{count_of}
use Rattle.moments.specs.Floors.{AreSmall, factor_of}
use Rattle.moments.specs.declared.Moments.{Moments}
use Rattle.moments.specs.declared.Widening.{Widening}
use Rattle.error_tables.specs.RowFloors.{IsEndFar, swapped}
use Rattle.colour_bounds.specs.Bounds.{IsSingleChannel}
use Rattle.colour_bounds.specs.OneChannel.{moves_one, moved_channel, moved_ends}
use Rattle.colour_bounds.specs.Orders.{IsOrder, integer_on, rank_on}
use Rattle.colour_bounds.specs.PartScans.{error_now, error_with, integer_of}
use Rattle.colour_bounds.specs.Ranks.{rank_of}
use Rattle.colour_bounds.specs.declared.orders.WalkOrder.{WalkOrder}
use Rattle.colour_bounds.specs.declared.one_channel.Trend.{Trend}
use Rattle.colour_bounds.specs.declared.one_channel.Trend.TheVariants.{Rising, Falling}
use Rattle.colour_bounds.specs.declared.own_walk.OwnWalk.{OwnWalk}
use Rattle.colour_bounds.specs.declared.part_scan.PartitionScan.{PartitionScan}

-- the endpoint that the flag selects
abbrev pub end_of : (is_first : Bool) → ℕ × ℕ → ℕ
end_of is_first ends = if is_first then ends.0 else ends.1

-- the other trend
abbrev pub turned : Trend → Trend
turned Rising = Falling
turned Falling = Rising

-- whether the trend is Falling
abbrev pub is_falling : Trend → Bool
is_falling Rising = false
is_falling Falling = true

-- the value of the offset that is farthest from the trend
abbrev pub value_against : Trend → ℕ
value_against Rising = 64
value_against Falling = 62

-- a value with the other top bit
abbrev pub other_half : ℕ → ℕ
other_half value = if nat_lt value 128 then 255 else 0

-- a value at `place` has the trend, and the integer moves one channel with it
abbrev pub IsInTrend : PartitionScan → Trend → (place value : ℕ) → Type 0
IsInTrend scan trend place value =
    IsTrue (moves_one trend scan.cem (slice_set scan.values place value) place)

-- the selected endpoint rises with the values at `place` that have the trend
pub record RisesAlong (mode : ℕ) (trend : Trend) (place : ℕ) (is_first : Bool) : Type 0 where
  pub rises : (values : List ℕ) (u v : ℕ) → length values ≡ 8 → u ≤ v → v ≤ 255
      → IsTrue (moves_one trend mode (slice_set values place u) place)
      → IsTrue (moves_one trend mode (slice_set values place v) place)
      → end_of is_first (moved_ends trend mode (slice_set values place u) place)
      ≤ end_of is_first (moved_ends trend mode (slice_set values place v) place)

-- the unquantized value at position `at` of an order
abbrev pub byte_on : PartitionScan → WalkOrder → ℕ → ℕ
byte_on scan order at = colour_value scan.tables.now.level
    (integer_on (count_of scan.tables.now.level) order at)

-- the selected endpoint rises along the order, over the values that have the trend
pub record RisesOn (scan : PartitionScan) (trend : Trend) (place : ℕ) (is_first : Bool)
    (order : WalkOrder) : Type 0 where
  pub rises : (j k : ℕ) → j ≤ k → k < order.count
      → IsInTrend scan trend place (byte_on scan order j)
      → IsInTrend scan trend place (byte_on scan order k)
      → end_of is_first (moved_ends trend scan.cem (slice_set scan.values place
      (byte_on scan order j)) place)
      ≤ end_of is_first (moved_ends trend scan.cem (slice_set scan.values place
      (byte_on scan order k)) place)

-- `rank` is that of the present value at `place`
abbrev pub IsPresentRank : PartitionScan → (place rank : ℕ) → Type 0
IsPresentRank scan place rank = rank ≡ rank_of (count_of scan.tables.now.level)
    (slice_index scan.tables.now.block.colours.items (integer_of scan place))

-- `start` is the position of the present value in the order
pub record IsPresentAt (scan : PartitionScan) (place : ℕ) (order : WalkOrder)
    (start : ℕ) : Type 0 where
  pub within : start < order.count
  pub is : IsPresentRank scan place (rank_on order start)

-- no value at `place` that has another trend has a smaller error
abbrev pub AreOutsideNoBetter : (w h : ℕ) → PartitionScan → Trend → (place : ℕ) → Type 0
AreOutsideNoBetter w h scan trend place = (value : ℕ) → value < count_of scan.tables.now.level
    → moves_one trend scan.cem
    (slice_set scan.values place (colour_value scan.tables.now.level value)) place ≡ false
    → error_now w h scan ≤ error_with w h scan place value

-- the moments of a channel with the selected endpoint as the first
abbrev pub turned_moments : (is_first : Bool) → Moments → Moments
turned_moments is_first moments = if is_first then moments else swapped moments

-- the form with the best second endpoint is a convex function of the first endpoint
pub record IsConvex (moments : Moments) : Type 0 where
  pub some : moments.second_squares ≢ 0
  pub squares : moments.products * moments.products ≤ moments.first_squares
      * moments.second_squares

-- the walk stops at these endpoints of its channel
abbrev pub IsWalkFar : OwnWalk → ℕ × ℕ → Type 0
IsWalkFar walk ends = IsEndFar walk.moments (factor_of walk.widening * end_of walk.is_first ends)
    walk.most

-- the result has the endpoints of the channel with this value, or is None if the value does not
-- have the trend
abbrev pub IsWalkEnds : PartitionScan → Trend → (place value : ℕ) → Option (ℕ × ℕ) → Type 0
IsWalkEnds scan trend place value None =
    moves_one trend scan.cem (slice_set scan.values place value) place ≡ false
IsWalkEnds scan trend place value (Some ends) = IsInTrend scan trend place value
    × (ends ≡ moved_ends trend scan.cem (slice_set scan.values place value) place)

-- the walk stops at position `at`
abbrev pub EndsAt : PartitionScan → (place : ℕ) → OwnWalk → ℕ → Type 0
EndsAt scan place walk at = IsInTrend scan walk.trend place (byte_on scan walk.order at)
    × IsWalkFar walk (moved_ends walk.trend scan.cem
    (slice_set scan.values place (byte_on scan walk.order at)) place)

-- the endpoint that the flag does not select
abbrev pub other_end_of : (is_first : Bool) → ℕ × ℕ → ℕ
other_end_of is_first ends = if is_first then ends.1 else ends.0

-- the endpoint that the flag does not select shows alone that the form is far
pub record IsOtherEndFar (is_first : Bool) (moments : Moments) (widening : Widening) (most : ℕ)
    (ends : ℕ × ℕ) : Type 0 where
  pub some : moments.first_squares ≢ 0
  pub far : IsEndFar (swapped moments) (factor_of widening * other_end_of is_first ends) most

-- the walk is valid: after the first position at which it stops, in either direction from the
-- present one, no value of the order has a smaller error
pub record IsWalkOn (w h : ℕ) (scan : PartitionScan) (place : ℕ) (walk : OwnWalk) : Type 0 where
  pub single : IsSingleChannel scan walk.trend place walk.kept
  pub channel_small : moved_channel scan.cem place < 4
  pub small : AreSmall walk.moments
  pub most_fits : walk.most ≤ 2 ^ 61
  pub outside : AreOutsideNoBetter w h scan walk.trend place
  pub orders : IsOrder (count_of scan.tables.now.level) walk.order
  pub starts : IsPresentAt scan place walk.order walk.start
  pub other_end : (value : ℕ) → value < count_of scan.tables.now.level
      → IsInTrend scan walk.trend place (colour_value scan.tables.now.level value)
      → IsOtherEndFar walk.is_first walk.moments walk.widening walk.most
      (moved_ends walk.trend scan.cem
      (slice_set scan.values place (colour_value scan.tables.now.level value)) place)
      → error_now w h scan ≤ error_with w h scan place value
  pub above : (at k : ℕ) → walk.start < at → at ≤ k → k < walk.order.count
      → EndsAt scan place walk at
      → error_now w h scan
      ≤ error_with w h scan place (integer_on (count_of scan.tables.now.level) walk.order k)
  pub below : (at k : ℕ) → at < walk.start → k ≤ at → EndsAt scan place walk at
      → error_now w h scan
      ≤ error_with w h scan place (integer_on (count_of scan.tables.now.level) walk.order k)

-- no value outside the order has a smaller error
abbrev pub AreOthersNoBetter : (w h : ℕ) → PartitionScan → (place : ℕ) → WalkOrder → Type 0
AreOthersNoBetter w h scan place order = (value : ℕ) → value < count_of scan.tables.now.level
    → (rank_of (count_of scan.tables.now.level) value < order.from)
    ⊎ (order.from + order.count ≤ rank_of (count_of scan.tables.now.level) value)
    → error_now w h scan ≤ error_with w h scan place value

-- the walk is valid, and no value outside its order has a smaller error
pub record IsOwnWalk (w h : ℕ) (scan : PartitionScan) (place : ℕ) (walk : OwnWalk) : Type 0 where
  pub on : IsWalkOn w h scan place walk
  pub others : AreOthersNoBetter w h scan place walk.order
