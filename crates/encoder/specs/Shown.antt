-- The block that a decoder shows of 16 bytes.
use Rattle.std.specs.Prelude.{ℕ, List, [], ◌∷◌, Result, Ok, Err}
use Rattle.astc_model.specs.declared.block.Block.{Block}
use Rattle.astc_model.specs.declared.block.BlockFault.{BlockFault}
use Rattle.astc_model.specs.Blocks.{constant_of}
use Rattle.astc_model.specs.Reading.{read}

-- the values of 16 bits of a block in magenta
abbrev pub magenta_values : List ℕ
magenta_values = 65535 ∷ 0 ∷ 65535 ∷ 65535 ∷ []

-- the block that bytes are read as, and one in magenta for a fault
abbrev pub block_read : Result Block BlockFault → Block
block_read (Ok block) = block
block_read (Err fault) = constant_of magenta_values

-- the block of the bytes, or one in magenta if they are unreadable
unfoldable pub shown_block : ℕ → ℕ → List ℕ → Block
shown_block w h bytes = block_read (read w h bytes)
