-- The positions of the fields of a coded block (Khronos Data Format Specification, ASTC, "Block
-- Layout", "Partitioning" and "Color Endpoint Mode").
use Rattle.std.specs.Prelude.{◌≡◌, ◌<◌, ◌≤◌, ℕ, ◌+◌, ◌-◌, ◌*◌, ◌/◌, ◌%◌, ◌^◌, List, [], ◌∷◌, length, slice_index}
use Rattle.std.specs.Int.{bit_at}
use Rattle.astc_model.specs.declared.block.Coded.{Coded as CodedFields}
use Rattle.astc_model.specs.declared.level.Level.{Level}
use Rattle.astc_model.specs.Bits.{field_of, top_field}
use Rattle.astc_model.specs.Levels.{sequence_bits}
use Rattle.astc_model.specs.Sequences.{written_sequence}
use Rattle.astc_model.specs.declared.mode.Mode.{Mode}
use Rattle.astc_model.specs.Shapes.{weight_data_bits, colour_start, high_mode_bits, plane_bits}
use Rattle.astc_model.specs.Fields.{high_modes_start, code_at, if_part, modes_in_code}
use Rattle.block_writer.specs.declared.partitions.PartitionFields.{PartitionFields}
use Rattle.block_writer.specs.Written.{colours_end, top_start}

-- ---- the partitions and their endpoint modes

-- the fields of one partition: its endpoint mode
pub record IsOfOne (coded : CodedFields) (fields : PartitionFields) : Type 0 where
  pub low_width : fields.low_bits ≡ 4
  pub low : fields.low ≡ slice_index coded.cems 0

-- the fields of several partitions: the partition index, and the code of the endpoint modes in two
-- parts
pub record IsOfSeveral (coded : CodedFields) (fields : PartitionFields) : Type 0 where
  pub low_width : fields.low_bits ≡ 10
  pub low : fields.low ≡ coded.seed
  pub middle_width : fields.middle_bits ≡ 6
  pub selector : field_of fields.middle 0 2 ≡ coded.selector
  pub modes : modes_in_code coded.parts coded.selector (fields.middle + 64 * fields.high)
      ≡ coded.cems

-- the fields have the partition index and the endpoint modes of the block, with the widths of the
-- standard
pub record ArePartitionFields (coded : CodedFields) (fields : PartitionFields) : Type 0 where
  pub start : 13 + fields.low_bits + fields.middle_bits ≡ colour_start coded.parts
  pub high_width : fields.high_bits ≡ high_mode_bits coded.parts coded.selector
  pub low_fits : fields.low < 2 ^ fields.low_bits
  pub middle_fits : fields.middle < 2 ^ fields.middle_bits
  pub high_fits : fields.high < 2 ^ fields.high_bits
  pub one : coded.parts ≡ 1 → IsOfOne coded fields
  pub several : 2 ≤ coded.parts → IsOfSeveral coded fields

-- the class bit of a partition in the code (the class of its mode minus the least class of the
-- selector), and the two bits of its mode in the class
abbrev pub class_bit_of : CodedFields → ℕ → ℕ
class_bit_of coded part =
    if_part coded.parts part (slice_index coded.cems part / 4 + 1 - coded.selector)

abbrev pub bits_in_class : CodedFields → ℕ → ℕ
bits_in_class coded part = slice_index coded.cems part % 4

-- the widths of the fields of the code of the endpoint modes, for a selector of 1 to 3: the
-- selector, a class bit for each partition, and two mode bits for each; 0 for missing partitions
abbrev pub code_widths : ℕ → List ℕ
code_widths parts =
    2 ∷ if_part parts 0 1 ∷ if_part parts 1 1 ∷ if_part parts 2 1 ∷ if_part parts 3 1
    ∷ if_part parts 0 2 ∷ if_part parts 1 2 ∷ if_part parts 2 2 ∷ if_part parts 3 2 ∷ []

-- the values of the fields of the code, in the order of their widths
abbrev pub code_values : CodedFields → List ℕ
code_values coded =
    coded.selector ∷ class_bit_of coded 0 ∷ class_bit_of coded 1 ∷ class_bit_of coded 2
    ∷ class_bit_of coded 3 ∷ bits_in_class coded 0 ∷ bits_in_class coded 1
    ∷ bits_in_class coded 2 ∷ bits_in_class coded 3 ∷ []

-- the number is the code of the block's endpoint modes, whose bits are stored in two places
pub record IsCodeOf (coded : CodedFields) (code : ℕ) : Type 0 where
  pub small : code < 2 ^ (6 + high_mode_bits coded.parts coded.selector)
  pub selector : field_of code 0 2 ≡ coded.selector
  pub modes : modes_in_code coded.parts coded.selector code ≡ coded.cems

-- ---- the whole block

-- the widths and the values of all fields of a block, the lowest first: block mode, number of
-- partitions, the two low fields of the partitions, colour integers, unused bits, component of the
-- second plane, the rest of the code, weights
abbrev pub layout_widths : CodedFields → Mode → Level → PartitionFields → List ℕ
layout_widths coded mode level fields =
    11 ∷ 2 ∷ fields.low_bits ∷ fields.middle_bits ∷ sequence_bits level (length coded.colours.items)
    ∷ (top_start coded mode - colours_end coded level) ∷ plane_bits mode ∷ fields.high_bits
    ∷ weight_data_bits mode ∷ []

abbrev pub layout_values : CodedFields → Level → PartitionFields → ℕ → List ℕ
layout_values coded level fields weights =
    coded.mode ∷ (coded.parts - 1) ∷ fields.low ∷ fields.middle
    ∷ written_sequence level coded.colours.items ∷ 0 ∷ (coded.plane - 1) ∷ fields.high ∷ weights
    ∷ []

-- the number has the sequence of the weights in reverse bit order
pub record AreTurnedWeights (coded : CodedFields) (mode : Mode) (weights : ℕ) : Type 0 where
  pub turned : (i : ℕ) → i < weight_data_bits mode → bit_at weights (weight_data_bits mode - 1 - i)
      ≡ bit_at (written_sequence mode.level coded.weights.items) i
  pub turned_fits : weights < 2 ^ weight_data_bits mode

-- the number z has each field of the block at its position
pub record AreFieldsOf (z : ℕ) (coded : CodedFields) (mode : Mode) (level : Level) : Type 0 where
  pub mode_field : field_of z 0 11 ≡ coded.mode
  pub parts_field : field_of z 11 2 ≡ coded.parts - 1
  pub single_mode : coded.parts ≡ 1 → field_of z 13 4 ≡ slice_index coded.cems 0
  pub seed_field : 2 ≤ coded.parts → field_of z 13 10 ≡ coded.seed
  pub selector_field : 2 ≤ coded.parts → field_of z 23 2 ≡ coded.selector
  pub mode_fields : 2 ≤ coded.parts → modes_in_code coded.parts coded.selector
      (code_at z mode coded.parts coded.selector) ≡ coded.cems
  pub colour_field : field_of z (colour_start coded.parts)
      (sequence_bits level (length coded.colours.items))
      ≡ written_sequence level coded.colours.items
  pub unused_field : field_of z (colours_end coded level)
      (top_start coded mode - colours_end coded level) ≡ 0
  pub plane_field : mode.planes ≡ 2
      → field_of z (high_modes_start mode coded.parts coded.selector - 2) 2 ≡ coded.plane - 1
  pub weight_field : top_field z 0 (weight_data_bits mode)
      ≡ written_sequence mode.level coded.weights.items
