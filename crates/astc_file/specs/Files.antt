-- A plain `.astc` file as an image in blocks, written, and read from its bytes: the header, and the
-- blocks by rows from the top, columns from the left.
use Rattle.std.specs.Prelude.{ℕ, List, ◌++◌, take, drop, Result, Ok, Err}
use Rattle.std.specs.List.{flat_map}
use Rattle.astc_model.specs.declared.footprint_name.FootprintName.{FootprintName}
use Rattle.ktx_header.specs.Chaining.{◌>>=◌}
use Rattle.tex_shelf.specs.declared.pieces.PieceFault.{PieceFault}
use Rattle.tex_shelf.specs.declared.pieces.PieceFault.TheVariants.{ShortData as HasShortData, TrailingBytes as HasTrailingBytes}
use Rattle.tex_shelf.specs.Pieces.{ArePieces, pieces_of}
use Rattle.astc_file.specs.declared.fault.AstcFault.{AstcFault}
use Rattle.astc_file.specs.declared.fault.AstcFault.TheVariants.{ShortData, TrailingBytes}
use Rattle.astc_file.specs.Counting.{AreFileSides, block_count}
use Rattle.astc_file.specs.Headers.{header_of, header_in}

-- a footprint, sides in texels, and blocks
pub record Image : Type 0 where
  pub name : FootprintName
  pub width : ℕ
  pub height : ℕ
  pub blocks : List (List ℕ)

-- what an image may be
pub record IsImage (image : Image) : Type 0 where
  pub sides : AreFileSides image.width image.height
  pub full : ArePieces 16 (block_count image.name image.width image.height) image.blocks

-- the file of an image: its header, and its blocks in order
unfoldable pub astc : FootprintName → ℕ → ℕ → List (List ℕ) → List ℕ
astc name width height blocks = header_of name width height ++ flat_map (λ block. block) blocks

-- a fault of the blocks as one of the file
abbrev pub block_fault : PieceFault → AstcFault
block_fault (HasShortData n) = ShortData n
block_fault HasTrailingBytes = TrailingBytes

-- the blocks that were read, with a fault of theirs as one of the file
abbrev pub in_blocks : {A : Type 0} → Result A PieceFault → Result A AstcFault
in_blocks (Ok x) = Ok x
in_blocks (Err fault) = Err (block_fault fault)

-- the image that a file has, or its first fault
unfoldable pub astc_of : List ℕ → Result Image AstcFault
astc_of bytes = do
  header ← header_in (take 16 bytes)
  blocks ← in_blocks (pieces_of 16 (block_count header.name header.width header.height) 16
      (drop 16 bytes))
  Ok (record { name = header.name; width = header.width; height = header.height; blocks = blocks })
