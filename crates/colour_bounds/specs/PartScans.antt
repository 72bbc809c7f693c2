-- The data of a partition while the values of its colour integers are tried.
use Rattle.std.specs.Prelude.{◌≡◌, ℕ, ◌+◌, ◌*◌, ◌<◌, ◌≤◌, ◌^◌, length, take, slice_index, IsTrue}
use Rattle.astc_model.specs.Changes.{Colour, with_integer}
use Rattle.astc_model.specs.Shapes.{colour_count}
use Rattle.astc_model.specs.declared.block.Block.TheVariants.{Coded}
use Rattle.astc_model.specs.Endpoints.{is_ldr_mode, endpoint_integers}
use Rattle.astc_model.specs.CodedTexels.{part_values}
use Rattle.moments.specs.Floors.{IsMost}
use Rattle.error_tables.specs.Reached.{IsPartReach}
use Rattle.error_tables.specs.Floors.{IsPartFloor, IsSmallFloor, weight_sum}
use Rattle.error_tables.specs.Kept.{IsKept}
use Rattle.error_tables.specs.State.{StateView, view_of, error_in}
use Rattle.colour_bounds.specs.declared.part_scan.PartitionScan.{PartitionScan}

-- the state of the block that the tables describe
abbrev pub state_of : PartitionScan → StateView
state_of scan = view_of scan.tables.now

-- the index in the block of the colour integer at `place` of the partition
abbrev pub integer_of : PartitionScan → ℕ → ℕ
integer_of scan place = colour_count scan.part scan.tables.now.block.cems + place

-- the present error of the block
abbrev pub error_now : (w h : ℕ) → PartitionScan → ℕ
error_now w h scan = error_in w h (state_of scan) (Coded scan.tables.now.block)

-- the error of the block with another value for the colour integer at `place`
abbrev pub error_with : (w h : ℕ) → PartitionScan → (place value : ℕ) → ℕ
error_with w h scan place value =
    error_in w h (state_of scan) (with_integer (Coded scan.tables.now.block) Colour
    (integer_of scan place) value)

-- the data belong to a partition of the block and to its inside places
pub record IsPartScan (w h : ℕ) (scan : PartitionScan) : Type 0 where
  pub kept : IsKept w h scan.tables.now
  pub own : scan.part < scan.tables.now.block.parts
  pub mode_is : scan.cem ≡ slice_index scan.tables.now.block.cems scan.part
  pub mode_fits : scan.cem < 16
  pub mode_ldr : IsTrue (is_ldr_mode scan.cem)
  pub values_are : take (endpoint_integers scan.cem) scan.values
      ≡ part_values scan.tables.now.block scan.tables.now.level scan.part
  pub eight_values : length scan.values ≡ 8
  pub reached : IsPartReach w h scan.tables.now.block scan.part scan.tables.now.places.now
      scan.reach.now
  pub few_reached : length scan.reach.now ≤ 144
  pub floored : IsPartFloor scan.tables.now scan.reach.now scan.floor
  pub small_floor : IsSmallFloor scan.floor
  pub enough : IsMost scan.most scan.floor.taken (weight_sum scan.tables.now * scan.floor.count)
  pub most_fits : scan.most ≤ 2 ^ 61
