-- The meaning of the kept numbers for the block and its source.
use Rattle.std.specs.Prelude.{◌≡◌, ℕ, ◌*◌, ◌/◌, ◌%◌, ◌<◌, length, None, slice_index, slice_index_or, IsTrue}
use Rattle.astc_model.specs.Footprints.{is_footprint}
use Rattle.astc_model.specs.Errors.{place_error}
use Rattle.astc_model.specs.CodedTexels.{coded_texel}
use Rattle.astc_model.specs.declared.block.Coded.{Coded as CodedFields}
use Rattle.astc_model.specs.declared.block.Block.TheVariants.{Coded}
use Rattle.texel_error.specs.Shaped.{IsShaped}
use Rattle.texel_error.specs.Decoding.{IsDecoded}
use Rattle.error_tables.specs.State.{view_of, error_in}
use Rattle.error_tables.specs.Arounds.{AreCorners}
use Rattle.error_tables.specs.PartReaches.{ArePartReaches}
use Rattle.error_tables.specs.Trials.{AreTablesSmall}
use Rattle.error_tables.specs.declared.tables.Tables.{Tables}

-- the error of the place p of a coded block
abbrev pub error_at : (w h : ℕ) → Tables → CodedFields → ℕ → ℕ
error_at w h tables block p =
    place_error tables.weights (coded_texel w h tables.decoded.flavour block (p % w) (p / w))
    (slice_index_or tables.places.now p None)

-- all that is kept
pub record IsKept (w h : ℕ) (tables : Tables) : Type 0 where
  pub sides : IsTrue (is_footprint w h)
  pub all : length tables.places.now ≡ w * h
  pub is_shaped : IsShaped w h tables.block tables.mode tables.level
  pub is_decoded : IsDecoded w h tables.decoded.flavour tables.block tables.mode tables.level
      tables.decoded
  pub around_are : AreCorners w h tables.mode tables.places.now tables.around
  pub reaches_are : ArePartReaches w h tables.block tables.places.now tables.reaches
  pub small : AreTablesSmall tables
  pub errors_are : (p : ℕ) → p < w * h → slice_index tables.errors p
      ≡ error_at w h tables tables.block p
  pub total_is : tables.total ≡ error_in w h (view_of tables) (Coded tables.block)
