-- The data of the partitions of a block from one scan of their colour integers to the next.
use Rattle.std.specs.Prelude.{◌≡◌, ℕ, ◌*◌, ◌<◌, ◌≤◌, ◌^◌, List, length, take, slice_index, IfSome, IsTrue}
use Rattle.astc_model.specs.Endpoints.{is_ldr_mode, endpoint_integers}
use Rattle.astc_model.specs.CodedTexels.{part_values}
use Rattle.moments.specs.Floors.{IsMost}
use Rattle.error_tables.specs.Reached.{IsPartReach}
use Rattle.error_tables.specs.Floors.{IsPartFloor, IsSmallFloor, weight_sum}
use Rattle.error_tables.specs.declared.tables.Tables.{Tables}
use Rattle.error_state.specs.declared.kept_parts.KeptPart.{KeptPart}
use Rattle.error_state.specs.declared.kept_parts.KeptParts.{KeptParts}

-- the endpoint mode of a part
abbrev pub mode_of : Tables → ℕ → ℕ
mode_of tables part = slice_index tables.block.cems part

-- the numbers are those of a part, whatever list has its places
pub record IsKeptPart (w h : ℕ) (tables : Tables) (part : ℕ) (kept : KeptPart) : Type 0 where
  pub mode_fits : mode_of tables part < 16
  pub mode_ldr : IsTrue (is_ldr_mode (mode_of tables part))
  pub values_are : take (endpoint_integers (mode_of tables part)) kept.values
      ≡ part_values tables.block tables.level part
  pub eight_values : length kept.values ≡ 8
  pub floored : (reach : List ℕ) → IsPartReach w h tables.block part tables.places.now reach
      → IsPartFloor tables reach kept.floor
  pub small_floor : IsSmallFloor kept.floor
  pub enough : IsMost kept.most kept.floor.taken (weight_sum tables * kept.floor.count)
  pub most_fits : kept.most ≤ 2 ^ 61

-- each of the four parts has its own numbers, or none
pub record AreKeptParts (w h : ℕ) (tables : Tables) (parts : KeptParts) : Type 0 where
  pub first_is : IfSome parts.first (IsKeptPart w h tables 0)
  pub second_is : IfSome parts.second (IsKeptPart w h tables 1)
  pub third_is : IfSome parts.third (IsKeptPart w h tables 2)
  pub fourth_is : IfSome parts.fourth (IsKeptPart w h tables 3)
