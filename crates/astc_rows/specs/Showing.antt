-- The texels that the blocks of rows show.
use Rattle.std.specs.Prelude.{◌≡◌, ℕ, ◌+◌, ◌-◌, ◌*◌, ◌/◌, ◌%◌, min, nat_lt, ◌&&◌, ◌==◌, if◌then◌else◌, List, [], Result, Ok, Err, slice_index_or, slice_set, map}
use Rattle.std.specs.List.{range_with_len}
use Rattle.astc_model.specs.Sums.{sum_to}
use Rattle.astc_model.specs.Places.{Texel}
use Rattle.astc_model.specs.FootprintNames.{sides_of}
use Rattle.astc_model.specs.Reading.{read}
use Rattle.astc_model.specs.Shown.{shown}
use Rattle.astc_model.specs.declared.block.Block.{Block}
use Rattle.astc_model.specs.declared.block.BlockFault.{BlockFault}
use Rattle.astc_rows.specs.declared.arguments.Argument.{Argument}
use Rattle.astc_rows.specs.declared.arguments.Argument.TheVariants.{Texels, Blocks}
use Rattle.astc_rows.specs.declared.bands.CheckedRows.{CheckedRows}
use Rattle.astc_rows.specs.declared.arguments.Rows.{Rows}
use Rattle.astc_rows.specs.Bands.{AreCheckedRows, checked_rows, block_count, columns}

-- how many rows of texels the rows of blocks cover
abbrev pub texel_rows : ℕ → CheckedRows → ℕ
texel_rows h band = min ((band.first + band.count) * h) band.height - min
    (band.first * h) band.height

-- 1 for bytes that can't be read
abbrev pub faults_in : Result Block BlockFault → ℕ
faults_in (Ok block) = 0
faults_in (Err fault) = 1

-- the block in which texel i of the rows lies, and its place there
abbrev pub block_of : (w h : ℕ) → CheckedRows → ℕ → ℕ
block_of w h band i = i / band.width / h * columns w band + i % band.width / w

-- that place, in rows of w texels from the top
abbrev pub place_of : (w h : ℕ) → CheckedRows → ℕ → ℕ
place_of w h band i = i / band.width % h * w + i % band.width % w

-- rows of texels of this number and width, with another texel in column x and row y, if they reach
-- that far
abbrev pub with_texel : (rows width x y : ℕ) → Texel → List Texel → List Texel
with_texel rows width x y texel texels = if nat_lt x width && nat_lt y rows then slice_set texels
    (y * width + x) texel else texels

-- texel i of the rows
abbrev pub texel_shown : (w h : ℕ) → CheckedRows → List (List ℕ) → ℕ → Texel
texel_shown w h band blocks i =
    shown w h band.flavour (slice_index_or blocks (block_of w h band i) []) (i % band.width % w)
    (i / band.width % h)

-- the texels are those that the blocks show, in rows from the top, and unreadable blocks are
-- counted
pub record AreShown (w h : ℕ) (band : CheckedRows) (blocks : List (List ℕ)) (texels : List Texel)
    (illegal : ℕ) : Type 0 where
  pub texels_are : texels ≡ map (texel_shown w h band blocks)
      (range_with_len 0 (texel_rows h band * band.width))
  pub illegal_is : illegal ≡ sum_to (λ k. faults_in (read w h (slice_index_or blocks k [])))
      (block_count w band)

-- the slices have a texel for each place of the rows, and a block for each
abbrev pub fitted : CheckedRows → (texels blocks : ℕ) → Result CheckedRows Argument
fitted band texels blocks =
    if texels == texel_rows (sides_of band.name).1 band * band.width
    then (if blocks == block_count (sides_of band.name).0 band
    then Ok band
    else Err Blocks)
    else Err Texels

-- what holds of a call that shows blocks without a wrong argument
pub record IsFitted (band : CheckedRows) (texels blocks : ℕ) : Type 0 where
  pub band_is : AreCheckedRows (sides_of band.name).1 band
  pub full : texels ≡ texel_rows (sides_of band.name).1 band * band.width
  pub whole : blocks ≡ block_count (sides_of band.name).0 band

-- the wrong argument of the rows, else the checked lengths of the slices
abbrev pub fitted_by : Result CheckedRows Argument → (texels blocks : ℕ)
    → Result CheckedRows Argument
fitted_by (Err argument) texels blocks = Err argument
fitted_by (Ok band) texels blocks = fitted band texels blocks

-- the checked arguments of a call that shows blocks, with slices of this number of texels and
-- blocks, or the first wrong argument
unfoldable pub checked_show : Rows → (texels blocks : ℕ) → Result CheckedRows Argument
checked_show rows texels blocks = fitted_by (checked_rows rows) texels blocks

-- the texels that the blocks of a band show, in its footprint, and how many can't be read
abbrev pub BandIsShown : List (List ℕ) → List Texel → CheckedRows → ℕ → Type 0
BandIsShown blocks texels band illegal = AreShown (sides_of band.name).0
    (sides_of band.name).1 band blocks texels illegal
