-- Decoding the 16 bytes of a block: its contents, or the first fault (Khronos Data Format
-- Specification, ASTC, "Block Layout", "Void-Extent Blocks" and "Illegal Encodings").
use Rattle.std.specs.Prelude.{ℕ, ◌==◌, Bool, not, if◌then◌else◌, List, [], ◌∷◌, ◌++◌, replicate, Option, None, Some, Result, Ok, Err}
use Rattle.std.specs.Int.{w16, to_le_bytes}
use Rattle.std.specs.List.{flat_map}
use Rattle.astc_model.specs.Bits.{field_of, number_of}
use Rattle.astc_model.specs.Blocks.{Block, is_extent_in_order}
use Rattle.astc_model.specs.declared.block.Block.TheVariants.{Constant, Coded}
use Rattle.astc_model.specs.declared.level.Level.{Level}
use Rattle.astc_model.specs.Modes.{Mode, decoded_mode}
use Rattle.astc_model.specs.Shapes.{grid_fault, colour_shape}
use Rattle.astc_model.specs.Fields.{mode_at, parts_at, selector_at, cems_at, coded_at}
pub use Rattle.astc_model.specs.declared.block.BlockFault.{BlockFault}
use Rattle.astc_model.specs.declared.block.BlockFault.TheVariants.{ReservedMode, HdrConstant, ExtentReserved, ExtentOrder}

-- whether a block is a void extent: its lowest nine bits are 0x1FC
abbrev pub is_void_extent : ℕ → Bool
is_void_extent z = field_of z 0 9 == 0x1FC

-- the coordinates of a void extent: least s, greatest s, least t, greatest t
abbrev pub extent_at : ℕ → List ℕ
extent_at z = field_of z 12 13 ∷ field_of z 25 13 ∷ field_of z 38 13 ∷ field_of z 51 13 ∷ []

-- the values of a void extent: red, green, blue, alpha
abbrev pub values_at : ℕ → List ℕ
values_at z = field_of z 64 16 ∷ field_of z 80 16 ∷ field_of z 96 16 ∷ field_of z 112 16 ∷ []

-- the void-extent block with the bits z, or its first fault
abbrev pub read_constant : ℕ → Result Block BlockFault
read_constant z =
    if field_of z 9 1 == 1 then Err HdrConstant
    else (if not (field_of z 10 2 == 3) then Err ExtentReserved
    else (if not (is_extent_in_order (extent_at z)) then Err ExtentOrder
    else Ok (Constant (record { rgba = values_at z; extent = extent_at z }))))

-- the coded block with the bits z, from its mode and the level of its colour integers, or the fault
-- of these
abbrev pub read_values : ℕ → Mode → Result Level BlockFault → Result Block BlockFault
read_values z mode (Err fault) = Err fault
read_values z mode (Ok level) = Ok (Coded (coded_at z mode level))

-- the coded block with the bits z, or its first fault, from its mode and the fault of its grid
abbrev pub read_colours : ℕ → Mode → Option BlockFault → Result Block BlockFault
read_colours z mode (Some fault) = Err fault
read_colours z mode None =
    read_values z mode (colour_shape mode (parts_at z) (selector_at z) (cems_at z mode))

-- the coded block with the bits z, or its first fault, from its mode
abbrev pub read_grid : ℕ → ℕ → ℕ → Option Mode → Result Block BlockFault
read_grid w h z None = Err ReservedMode
read_grid w h z (Some mode) = read_colours z mode (grid_fault w h mode)

-- the coded block of w by h texels with the bits z, or its first fault
unfoldable pub read_coded : ℕ → ℕ → ℕ → Result Block BlockFault
read_coded w h z = read_grid w h z (decoded_mode (mode_at z))

-- the block of w by h texels with the bits z, or its first fault
abbrev pub read_bits : ℕ → ℕ → ℕ → Result Block BlockFault
read_bits w h z = if is_void_extent z then read_constant z else read_coded w h z

-- the block of w by h texels in these 16 bytes, or its first fault
unfoldable pub read : ℕ → ℕ → List ℕ → Result Block BlockFault
read w h bytes = read_bits w h (number_of bytes)

-- the bytes of the void-extent block with these values and without an extent: the nine bits 0x1FC,
-- a 0 (LDR), 54 bits of 1, then the values in little-endian order
abbrev pub constant_block_bytes : List ℕ → List ℕ
constant_block_bytes rgba = (0xFC ∷ 0xFD ∷ replicate 6 0xFF) ++ flat_map (to_le_bytes w16) rgba
