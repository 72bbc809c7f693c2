-- Pieces of 20 bytes: a block, and its error, the low byte first.
use Rattle.std.specs.Prelude.{ℕ, List, ◌++◌, take, drop}
use Rattle.std.specs.Int.{w32, to_le_bytes}
use Rattle.ktx_header.specs.declared.order.WordOrder.TheVariants.{Little}
use Rattle.ktx_header.specs.Orders.{number}

-- the piece of a block's 16 bytes and its error
abbrev pub piece_of : List ℕ → ℕ → List ℕ
piece_of block error = block ++ to_le_bytes w32 error

-- the 16 bytes of a piece's block
abbrev pub block_of : List ℕ → List ℕ
block_of piece = take 16 piece

-- the error in the 4 bytes after them
abbrev pub error_of : List ℕ → ℕ
error_of piece = number Little (drop 16 piece)
