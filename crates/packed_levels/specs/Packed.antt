-- The texture that is made of the images of its levels.
use Rattle.std.specs.Prelude.{◌≡◌, ◌<◌, ℕ, ◌+◌, ◌*◌, true, List, length, Ok, slice_index, slice_index_or, []}
use Rattle.astc_model.specs.FootprintNames.{sides_of}
use Rattle.astc_model.specs.declared.block.Block.{Block}
use Rattle.images.specs.Pictures.{Pictures, source_of}
use Rattle.texture.specs.declared.shape.Shape.{Shape}
use Rattle.texture.specs.Places.{place_of, HasBlock}
use Rattle.ktx_file.specs.Files.{AreBlocks, ktx, ktx_of}
use Rattle.adviser_pool.specs.Advisers.{AdviserState}
use Rattle.packed_levels.specs.declared.options.PackOptions.{PackOptions}
use Rattle.packed_levels.specs.Settling.{MayPropose, IsSettledFor, way_of}
use Rattle.packed_levels.specs.Serving.{ServesFile}
use Rattle.packed_levels.specs.Reports.{report_lines}
use Rattle.packed_levels.specs.Sources.{images_in, sources}

-- a block is settled, with this error, for its place of its image of its level; without advisers
-- nothing is proposed
abbrev pub IsPackedAt : Shape → PackOptions → List Pictures → ℕ → ℕ → ℕ → ℕ → ℕ → List ℕ → ℕ
    → Type 0
IsPackedAt shape options levels level element face row column block e =
    (proposals : List Block) × MayPropose (way_of shape.name options) proposals
    × IsSettledFor (way_of shape.name options)
    (source_of (sides_of shape.name).0 (sides_of shape.name).1 (images_in levels level)
    (element * shape.faces + face) column row) proposals block e

-- the blocks of a texture, one for each place of its levels' images, each settled for its place
-- with its error
pub record ArePacked (shape : Shape) (options : PackOptions) (levels : List Pictures)
    (blocks : List (List ℕ)) (errors : List ℕ) : Type 0 where
  pub blocks_full : AreBlocks shape blocks
  pub errors_full : length errors ≡ length blocks
  pub each : (level element face row column : ℕ) → HasBlock shape level element face row column
      → IsPackedAt shape options levels level element face row column
      (slice_index_or blocks (place_of shape level element face row column) [])
      (slice_index errors (place_of shape level element face row column))

-- The file and the report of the images of levels: the header and sizes around packed blocks, which
-- reading the file gives again, and the lines that report their errors. If advisers are queried,
-- they are served in the order of the blocks.
pub record PacksLevels (shape : Shape) (options : PackOptions) (before after : List AdviserState)
    (levels : List Pictures) (file : List ℕ) (lines : List (List ℕ)) : Type 0 where
  pub blocks : List (List ℕ)
  pub errors : List ℕ
  pub packed : ArePacked shape options levels blocks errors
  pub framed : file ≡ ktx shape blocks
  pub cut : ktx_of file ≡ Ok (record { shape = shape; blocks = blocks })
  pub told : lines ≡ report_lines shape errors
  pub served : options.advised ≡ true → ServesFile (way_of shape.name options)
      (sources shape levels) blocks errors before after

-- the first byte of a block in a file, by its level and its place: after the header and the sizes
-- of the levels so far
abbrev pub block_start : ℕ → ℕ → ℕ
block_start level place = 92 + 4 * (level + 1) + 16 * place

-- a prefix of k bytes of a file: the blocks that begin in the prefix are packed
pub record BeginsPacked (shape : Shape) (options : PackOptions) (levels : List Pictures) (k : ℕ)
    (file : List ℕ) : Type 0 where
  pub blocks : List (List ℕ)
  pub blocks_full : AreBlocks shape blocks
  pub framed : file ≡ ktx shape blocks
  pub each : (level element face row column : ℕ) → HasBlock shape level element face row column
      → block_start level (place_of shape level element face row column) < k
      → (e : ℕ) × IsPackedAt shape options levels level element face row column
      (slice_index_or blocks (place_of shape level element face row column) []) e
