-- The shape of a coded block: the numbers and levels of its weights and colour integers, and its
-- faults (Khronos Data Format Specification, ASTC, "Block Layout", "Color Endpoint Mode" and
-- "Illegal Encodings").
use Rattle.std.specs.Prelude.{ℕ, ◌+◌, ◌-◌, ◌*◌, ◌≤◌, not, ◌&&◌, ◌||◌, ◌==◌, nat_lt, nat_le, if◌then◌else◌, List, [], ◌∷◌, take, sum_by, Option, None, Some, Result, Ok, Err}
use Rattle.std.specs.List.{list_all, find}
use Rattle.std.specs.Option.{ok_or, option_or}
use Rattle.std.specs.Result.{result_err}
use Rattle.astc_model.specs.declared.level.Level.{Level}
use Rattle.astc_model.specs.declared.level.Level.TheVariants.{Six, Eight, Ten, Twelve, Sixteen, Twenty, TwentyFour, ThirtyTwo, Forty, FortyEight, SixtyFour, Eighty, NinetySix, OneTwentyEight, OneSixty, OneNinetyTwo, TwoFiftySix}
use Rattle.astc_model.specs.Levels.{count_of, sequence_bits}
use Rattle.astc_model.specs.Modes.{Mode, decoded_mode}
use Rattle.astc_model.specs.Endpoints.{is_ldr_mode, endpoint_integers}
pub use Rattle.astc_model.specs.declared.block.Coded.{Coded as CodedFields}
pub use Rattle.astc_model.specs.declared.block.BlockFault.{BlockFault}
use Rattle.astc_model.specs.declared.block.BlockFault.TheVariants.{ReservedMode, GridTooLarge, TooManyWeights, WeightBits, DualPlaneFour, TooManyColours, HdrEndpoint, ColourBits}

-- ---- the weights

-- the number of weights over both planes
abbrev pub weight_count : Mode → ℕ
weight_count mode = mode.across * mode.down * mode.planes

-- the length in bits of the sequence of weights
abbrev pub weight_data_bits : Mode → ℕ
weight_data_bits mode = sequence_bits mode.level (weight_count mode)

-- the first fault of the weight grid of a block of w by h texels with this mode
unfoldable pub grid_fault : ℕ → ℕ → Mode → Option BlockFault
grid_fault w h mode =
    if nat_lt w mode.across || nat_lt h mode.down then Some GridTooLarge
    else (if nat_lt 64 (weight_count mode) then Some TooManyWeights
    else (if nat_lt (weight_data_bits mode) 24
    || nat_lt 96 (weight_data_bits mode) then Some WeightBits
    else None))

-- ---- the colours

-- the number of colour integers of the first partitions with these endpoint modes
abbrev pub colour_count : ℕ → List ℕ → ℕ
colour_count parts cems = sum_by endpoint_integers (take parts cems)

-- the first bit of the colour integers: it follows the endpoint mode of one partition, or the
-- partition index and six endpoint mode bits of several
abbrev pub colour_start : ℕ → ℕ
colour_start parts = if parts == 1 then 17 else 29

-- the number of endpoint mode bits directly below the weights
abbrev pub high_mode_bits : ℕ → ℕ → ℕ
high_mode_bits parts selector = if selector == 0 then 0 else 3 * parts - 4

-- the number of bits of the component selector for the second plane
abbrev pub plane_bits : Mode → ℕ
plane_bits mode = if mode.planes == 2 then 2 else 0

-- the number of bits that the colour integers cannot use
abbrev pub taken_bits : Mode → ℕ → ℕ → ℕ
taken_bits mode parts selector =
    colour_start parts + weight_data_bits mode + high_mode_bits parts selector + plane_bits mode

-- the levels that colour integers can have, the greatest first
abbrev pub colour_levels : List Level
colour_levels =
    TwoFiftySix ∷ OneNinetyTwo ∷ OneSixty ∷ OneTwentyEight ∷ NinetySix ∷ Eighty ∷ SixtyFour
    ∷ FortyEight ∷ Forty ∷ ThirtyTwo ∷ TwentyFour ∷ Twenty ∷ Sixteen ∷ Twelve ∷ Ten ∷ Eight
    ∷ Six ∷ []

-- the greatest level from 6 on whose sequence of n integers fits into a block after `taken` bits;
-- None if level 6 does not fit
unfoldable pub greatest_fit : ℕ → ℕ → Option Level
greatest_fit taken n = find (λ level. nat_le (taken + sequence_bits level n) 128) colour_levels

-- the level of n colour integers in a block with this mode, partitions and selector
abbrev pub colour_level_of : Mode → ℕ → ℕ → ℕ → Option Level
colour_level_of mode parts selector n = greatest_fit (taken_bits mode parts selector) n

-- the level is the greatest one from 6 on whose sequence of n integers fits into a block after
-- `taken` bits
pub record IsGreatestFit (taken n : ℕ) (level : Level) : Type 0 where
  pub six : 6 ≤ count_of level
  pub fits : taken + sequence_bits level n ≤ 128
  pub greatest : (other : Level) → 6 ≤ count_of other → taken + sequence_bits other n ≤ 128
      → count_of other ≤ count_of level

-- the level of the colour integers of a block, or the first fault of its colours
unfoldable pub colour_shape : Mode → ℕ → ℕ → List ℕ → Result Level BlockFault
colour_shape mode parts selector cems =
    if (mode.planes == 2) && (parts == 4) then Err DualPlaneFour
    else (if nat_lt 18 (colour_count parts cems) then Err TooManyColours
    else (if not (list_all is_ldr_mode (take parts cems)) then Err HdrEndpoint
    else ok_or (colour_level_of mode parts selector (colour_count parts cems)) ColourBits))

-- ---- the whole shape

-- the first fault of the shape of a coded block with this decoded mode
abbrev pub fault_under : ℕ → ℕ → CodedFields → Option Mode → Option BlockFault
fault_under w h coded None = Some ReservedMode
fault_under w h coded (Some mode) =
    option_or (grid_fault w h mode)
    (result_err (colour_shape mode coded.parts coded.selector coded.cems))

-- the first fault of the fields of a coded block of w by h texels other than its colour integers
-- and weights
unfoldable pub fault_of_shape : ℕ → ℕ → CodedFields → Option BlockFault
fault_of_shape w h coded = fault_under w h coded (decoded_mode coded.mode)

-- the number of values of a level; 0 for a fault
abbrev pub count_at : Result Level BlockFault → ℕ
count_at (Ok level) = count_of level
count_at (Err fault) = 0

-- the number of values of a colour integer in a coded block with this decoded mode; 0 if the mode
-- is reserved or the colours have a fault
abbrev pub colour_range_under : CodedFields → Option Mode → ℕ
colour_range_under coded None = 0
colour_range_under coded (Some mode) =
    count_at (colour_shape mode coded.parts coded.selector coded.cems)

-- the number of values of a colour integer in a coded block
abbrev pub colour_range : CodedFields → ℕ
colour_range coded = colour_range_under coded (decoded_mode coded.mode)

-- the number of values of a weight integer under a decoded mode; 0 if the mode is reserved
abbrev pub weight_range_under : Option Mode → ℕ
weight_range_under None = 0
weight_range_under (Some mode) = count_of mode.level

-- the number of values of a weight integer in a coded block
abbrev pub weight_range : CodedFields → ℕ
weight_range coded = weight_range_under (decoded_mode coded.mode)
