-- The sizes that a legal coded block has
-- (Khronos Data Format Specification, ASTC, "Illegal Encodings").
use Rattle.std.specs.Prelude.{◌≡◌, ◌≤◌, ◌<◌, ◌+◌, length}
use Rattle.std.specs.List.{All}
use Rattle.astc_model.specs.declared.block.Coded.{Coded as CodedFields}
use Rattle.astc_model.specs.declared.level.Level.{Level}
use Rattle.astc_model.specs.declared.mode.Mode.{Mode}
use Rattle.astc_model.specs.Modes.{IsInModeRange}
use Rattle.astc_model.specs.Blocks.{AreFieldsInRange, AreSparesFixed, IsPlaneOf}
use Rattle.astc_model.specs.Levels.{count_of, sequence_bits}
use Rattle.astc_model.specs.Shapes.{weight_count, weight_data_bits, taken_bits}

-- the weights of a mode have legal sizes
pub record AreModeSizes (mode : Mode) : Type 0 where
  pub range : IsInModeRange mode
  pub few : weight_count mode ≤ 64
  pub short : weight_data_bits mode ≤ 96

-- the fields and the sequences of a block fit
pub record IsWritable (coded : CodedFields) (mode : Mode) (level : Level) : Type 0 where
  pub fields : AreFieldsInRange coded
  pub spares : AreSparesFixed coded
  pub plane_named : IsPlaneOf mode coded.plane
  pub colour_ranges : All (λ integer. integer < count_of level) coded.colours.items
  pub colours_fit : taken_bits mode coded.parts coded.selector + sequence_bits level
      (length coded.colours.items) ≤ 128
  pub all_weights : length coded.weights.items ≡ weight_count mode
  pub weight_ranges : All (λ integer. integer < count_of mode.level) coded.weights.items
