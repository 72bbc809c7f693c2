-- A KTX file as a shape and its blocks, read from its bytes, and written (Khronos KTX file format,
-- version 1).
use Rattle.std.specs.Prelude.{◌≡◌, ℕ, zero, suc, ◌+◌, ◌*◌, List, [], ◌++◌, length, take, drop, Result, Ok}
use Rattle.std.specs.List.{flat_map, AllByRecursion}
use Rattle.std.specs.Int.{w32, to_le_bytes}
use Rattle.astc_model.specs.Sums.{sum_to}
use Rattle.ktx_header.specs.Chaining.{◌>>=◌}
use Rattle.ktx_header.specs.Levels.{LevelSizes, data_of}
use Rattle.tex_shelf.specs.Pieces.{pieces_at}
use Rattle.ktx_file.specs.Faults.{KtxFault, in_data}
use Rattle.texture.specs.declared.shape.Shape.{Shape}
use Rattle.texture.specs.Shapes.{IsValid, level_blocks}
use Rattle.ktx_file.specs.Framing.{level_size_of, header_of}
use Rattle.ktx_file.specs.Headers.{header_in}

-- a shape and its blocks
pub record File : Type 0 where
  pub shape : Shape
  pub blocks : List (List ℕ)

-- there is a block of 16 bytes for each place
pub record AreBlocks (shape : Shape) (blocks : List (List ℕ)) : Type 0 where
  pub count : length blocks ≡ sum_to (level_blocks shape) shape.levels
  pub sizes : AllByRecursion (λ block. length block ≡ 16) blocks

-- what a file may be
pub record IsFile (file : File) : Type 0 where
  pub valid : IsValid file.shape
  pub full : AreBlocks file.shape file.blocks

-- n levels from this one on: each its size and its blocks
abbrev pub written_levels : Shape → ℕ → ℕ → List (List ℕ) → List ℕ
written_levels shape level zero blocks = []
written_levels shape level (suc n) blocks =
    to_le_bytes w32 (level_size_of shape level) ++ flat_map (λ block. block)
    (take (level_blocks shape level) blocks)
    ++ written_levels shape (level + 1) n (drop (level_blocks shape level) blocks)

-- the file of a shape and its blocks, in the order of their places
unfoldable pub ktx : Shape → List (List ℕ) → List ℕ
ktx shape blocks = header_of shape ++ written_levels shape 0 shape.levels blocks

-- what the levels of a shape are: blocks of 16 bytes
abbrev pub levels_in : Shape → LevelSizes (List ℕ)
levels_in shape = record {
  size = level_size_of shape;
  bytes = λ level. 16 * level_blocks shape level;
  content = λ level bytes. pieces_at 16 (level_blocks shape level) bytes;
}

-- the shape and the blocks that a file has, or its first fault
unfoldable pub ktx_of : List ℕ → Result File KtxFault
ktx_of bytes = do
  header ← header_in (take 64 bytes)
  blocks ← in_data (data_of header.order (levels_in header.layout) header.layout.levels
      header.key_bytes (drop 64 bytes))
  Ok (record { shape = header.layout; blocks = blocks })
