-- The line through the endpoints of a partition, and the squared distance of the partition's texels
-- from it.
use Rattle.std.specs.Prelude.{ℕ, ◌+◌, ◌-◌, ◌*◌, ◌/◌, ◌<◌, ◌≤◌, max, List, [], ◌∷◌, slice_index, ℤ, pos, neg_ℤ, ◌+ℤ◌, ◌-ℤ◌, ◌*ℤ◌}
use Rattle.std.specs.Int.RustNames.{unsigned_abs}
use Rattle.std.specs.List.{All}
use Rattle.astc_model.specs.Limits.{most_texel_error}
use Rattle.astc_model.specs.Errors.{squared_difference}
use Rattle.astc_model.specs.Places.{Texel, channel}
use Rattle.astc_model.specs.Candidates.{Ends}
use Rattle.astc_model.specs.declared.flavour.Flavour.{Flavour}
use Rattle.line_floors.specs.Sums.{scale}
use Rattle.line_floors.specs.declared.part_sums.PartitionSums.{PartitionSums}
use Rattle.line_floors.specs.declared.line.Slopes.{Slopes}
use Rattle.line_floors.specs.declared.line.PartitionLine.{PartitionLine}

-- a colour with each channel multiplied by `scale`
abbrev pub scaled : Flavour → Texel → List ℕ
scaled flavour colour =
    scale flavour * channel 0 colour ∷ scale flavour * channel 1 colour
    ∷ scale flavour * channel 2 colour ∷ scale flavour * channel 3 colour ∷ []

-- twice each of four channels
abbrev pub doubled : List ℕ → List ℕ
doubled values = 2 * slice_index values 0 ∷ 2 * slice_index values 1 ∷ 2 * slice_index values 2
    ∷ 2 * slice_index values 3 ∷ []

-- the difference of two colours in a channel, times the weight of the channel
abbrev pub slope : (gain from to : ℕ) → ℤ
slope gain from to = pos gain *ℤ (pos to -ℤ pos from)

abbrev pub slopes_of : (gains from to : List ℕ) → Slopes
slopes_of gains from to = record {
  red = slope (slice_index gains 0) (slice_index from 0) (slice_index to 0);
  green = slope (slice_index gains 1) (slice_index from 1) (slice_index to 1);
  blue = slope (slice_index gains 2) (slice_index from 2) (slice_index to 2);
  alpha = slope (slice_index gains 3) (slice_index from 3) (slice_index to 3);
}

-- the scalar product of the slopes with four channels
abbrev pub dot : Slopes → List ℕ → ℤ
dot slopes values =
    slopes.red *ℤ pos (slice_index values 0) +ℤ slopes.green *ℤ pos (slice_index values 1)
    +ℤ slopes.blue *ℤ pos (slice_index values 2) +ℤ slopes.alpha *ℤ pos (slice_index values 3)

-- the squared length of the line in bytes, each channel with its weight
abbrev pub length_of : (gains first second : List ℕ) → ℕ
length_of gains first second =
    slice_index gains 0 * squared_difference (slice_index second 0) (slice_index first 0)
    + slice_index gains 1 * squared_difference (slice_index second 1) (slice_index first 1)
    + slice_index gains 2 * squared_difference (slice_index second 2) (slice_index first 2)
    + slice_index gains 3 * squared_difference (slice_index second 3) (slice_index first 3)

-- the line from a first colour, which is `starts` in the units of targets, to a second; its length
-- is at least 1
abbrev pub line_from : (gains starts first second : List ℕ) → PartitionLine
line_from gains starts first second = record {
  gains = gains;
  starts = starts;
  constant = neg_ℤ (dot (slopes_of gains first second) starts);
  slopes = slopes_of gains first second;
  length = max (length_of gains first second) 1;
}

-- the line through the two endpoints of a partition
unfoldable pub line_of : Flavour → (gains : List ℕ) → Ends → PartitionLine
line_of flavour gains ends = line_from gains (doubled (scaled flavour ends.0)) ends.0 ends.1

-- ---- sums over the texels of a partition

-- the squared distances of the texels from the first endpoint are `more_of` minus `less_of`
abbrev pub more_of : PartitionLine → PartitionSums → ℕ
more_of line part_sums =
    slice_index line.gains 0 * (slice_index line.starts 0 * slice_index line.starts
    0 * part_sums.count + slice_index part_sums.red 0)
    + slice_index line.gains 1 * (slice_index line.starts 1 * slice_index line.starts
    1 * part_sums.count + slice_index part_sums.green 1)
    + slice_index line.gains 2 * (slice_index line.starts 2 * slice_index line.starts
    2 * part_sums.count + slice_index part_sums.blue 2)
    + slice_index line.gains 3 * (slice_index line.starts 3 * slice_index line.starts
    3 * part_sums.count + slice_index part_sums.alpha 3)

abbrev pub less_of : PartitionLine → PartitionSums → ℕ
less_of line part_sums =
    2
    * (slice_index line.gains 0 * (slice_index line.starts 0 * slice_index part_sums.sums 0)
    + slice_index line.gains 1 * (slice_index line.starts 1 * slice_index part_sums.sums 1)
    + slice_index line.gains 2 * (slice_index line.starts 2 * slice_index part_sums.sums 2)
    + slice_index line.gains 3 * (slice_index line.starts 3 * slice_index part_sums.sums 3))

-- the sum of the line's linear function over the texels, or of its products with the targets of a
-- channel
abbrev pub sum_of : PartitionLine → (count : ℕ) → (values : List ℕ) → ℤ
sum_of line count values = line.constant *ℤ pos count +ℤ dot line.slopes values

-- the sum of the squares of the linear function: the reduction of the squared distances by the best
-- weights, times the line's length
abbrev pub squares_of : PartitionLine → PartitionSums → ℤ
squares_of line part_sums =
    line.constant *ℤ sum_of line part_sums.count part_sums.sums
    +ℤ (line.slopes.red *ℤ sum_of line (slice_index part_sums.sums 0) part_sums.red
    +ℤ line.slopes.green *ℤ sum_of line (slice_index part_sums.sums 1) part_sums.green
    +ℤ line.slopes.blue *ℤ sum_of line (slice_index part_sums.sums 2) part_sums.blue
    +ℤ line.slopes.alpha *ℤ sum_of line (slice_index part_sums.sums 3) part_sums.alpha)

-- the squared distances of the texels from the line, in units of 1/64
unfoldable pub distance_of : PartitionLine → PartitionSums → ℕ
distance_of line part_sums =
    (more_of line part_sums - less_of line part_sums) / 4096
    - (unsigned_abs (squares_of line part_sums) / 4096 / line.length + 1)

-- ---- ranges

-- the slopes are within the ranges for bytes and weights of at most 15
pub record AreSmallSlopes (slopes : Slopes) : Type 0 where
  pub small_red : unsigned_abs slopes.red ≤ 3825
  pub small_green : unsigned_abs slopes.green ≤ 3825
  pub small_blue : unsigned_abs slopes.blue ≤ 3825
  pub small_alpha : unsigned_abs slopes.alpha ≤ 3825

-- the numbers of a line are within their ranges
pub record IsSmallLine (line : PartitionLine) : Type 0 where
  pub small_gains : All (λ gain. gain ≤ 15) line.gains
  pub small_starts : All (λ start. start ≤ 131070) line.starts
  pub small_constant : unsigned_abs line.constant ≤ 2005371000
  pub small_slopes : AreSmallSlopes line.slopes
  pub some_length : 0 < line.length
  pub small_length : line.length ≤ most_texel_error
