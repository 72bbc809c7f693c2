-- The bits of an encoded block that the decoder does not determine: unused bits, and the choice
-- between encodings (Khronos Data Format Specification, ASTC, "Block Layout" and "Integer Sequence
-- Encoding").
use Rattle.std.specs.Prelude.{◌≡◌, ◌<◌, ◌≤◌, ℕ, ◌+◌, ◌-◌, length, Some, Ok}
use Rattle.std.specs.Int.{bit_at}
use Rattle.astc_model.specs.declared.block.Block.{Block}
use Rattle.astc_model.specs.declared.block.Block.TheVariants.{Constant, Coded}
use Rattle.astc_model.specs.declared.block.Coded.{Coded as CodedFields}
use Rattle.astc_model.specs.declared.level.Level.{Level}
use Rattle.astc_model.specs.Bits.{field_of, top_field}
use Rattle.astc_model.specs.Levels.{sequence_bits}
use Rattle.astc_model.specs.declared.mode.Mode.{Mode}
use Rattle.astc_model.specs.Modes.{decoded_mode}
use Rattle.astc_model.specs.Sequences.{written_sequence}
use Rattle.astc_model.specs.Shapes.{weight_data_bits, colour_start, colour_shape, plane_bits}
use Rattle.astc_model.specs.Fields.{high_modes_start}

-- ---- unused bits

-- the position after the colour integers
abbrev pub colours_end : CodedFields → Level → ℕ
colours_end coded level = colour_start coded.parts + sequence_bits level
    (length coded.colours.items)

-- the position of the lowest field at the top of the block: the component of the second plane, the
-- endpoint mode bits below the weights, and the weights, as far as the block has them
abbrev pub top_start : CodedFields → Mode → ℕ
top_start coded mode = high_modes_start mode coded.parts coded.selector - plane_bits mode

-- each unused bit of z is 0: in a coded block, those between the colour integers and the fields at
-- the top; a void extent has no unused bits
abbrev pub AreUnusedZero : Block → ℕ → Type 0
AreUnusedZero (Constant constant) z = Unit {0}
AreUnusedZero (Coded coded) z =
    (mode : Mode) (level : Level) → decoded_mode coded.mode ≡ Some mode
    → colour_shape mode coded.parts coded.selector coded.cems ≡ Ok level
    → (k : ℕ) → colours_end coded level ≤ k → k < top_start coded mode → bit_at z k ≡ 0

-- ---- the sequences

-- the colour integers and the weights of a coded block are encoded in z with the least T or Q in
-- each group; the standard leaves the choice between encodings of the same digits
abbrev pub AreSequencesLeast : Block → ℕ → Type 0
AreSequencesLeast (Constant constant) z = Unit {0}
AreSequencesLeast (Coded coded) z =
    (mode : Mode) (level : Level) → decoded_mode coded.mode ≡ Some mode
    → colour_shape mode coded.parts coded.selector coded.cems ≡ Ok level
    → (field_of z (colour_start coded.parts) (sequence_bits level (length coded.colours.items))
    ≡ written_sequence level coded.colours.items)
    × (top_field z 0 (weight_data_bits mode) ≡ written_sequence mode.level coded.weights.items)
