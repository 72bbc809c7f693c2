-- The file that a polish makes of a texture and its images.
use Rattle.std.specs.Prelude.{◌≡◌, ℕ, ◌+◌, ◌*◌, false, List, [], length, slice_index, slice_index_or, Option, Some, None, Result, Ok, Err}
use Rattle.tex_shelf.specs.Files.{Files, file_at}
use Rattle.astc_model.specs.FootprintNames.{sides_of}
use Rattle.astc_words.specs.declared.job.AuditJob.{AuditJob}
use Rattle.pam_header.specs.declared.fault.ImageFault.{ImageFault}
use Rattle.pam_image.specs.Reading.{images_of}
use Rattle.images.specs.Pictures.{Pictures, source_of}
use Rattle.images.specs.Chains.{chain_of}
use Rattle.ktx_file.specs.declared.fault.KtxFault.{KtxFault}
use Rattle.texture.specs.declared.shape.Shape.{Shape}
use Rattle.texture.specs.Places.{place_of, HasBlock}
use Rattle.ktx_file.specs.Files.{File, AreBlocks, ktx, ktx_of}
use Rattle.astc_audit.specs.Ends.{want_of}
use Rattle.astc_audit.specs.Audits.{settings_for}
use Rattle.outcomes.specs.declared.outcome.Outcome.{Outcome}
use Rattle.outcomes.specs.declared.outcome.Outcome.TheVariants.{Image, Ktx}
use Rattle.encoder.specs.declared.settings.Settings.{Settings}
use Rattle.packed_levels.specs.Settling.{way_of, IsSettledFor}
use Rattle.packed_levels.specs.Reports.{report_lines}
use Rattle.packed_levels.specs.Sources.{images_in, sources}
use Rattle.packed_levels.specs.Settled.{unadvised, proposed_at, AreNoWorse}

-- ---- what is read

-- the reason why nothing is polished: the one file is not a texture, or the other has no fitting
-- images
pub data PolishFault : Type 0 where
  IsNoTexture : KtxFault → PolishFault
  AreNoImages : ImageFault → PolishFault

-- a texture, and the images that it is judged by
pub record Inputs : Type 0 where
  pub texture : File
  pub images : Pictures

-- both inputs, after the images are read, or their fault
abbrev pub with_images : File → Result Pictures ImageFault → Result Inputs PolishFault
with_images texture (Ok images) = Ok (record { texture = texture; images = images })
with_images texture (Err fault) = Err (AreNoImages fault)

-- the value of the file of the images for a texture; None if the file is missing
abbrev pub images_from : File → Option (List ℕ) → Option (Result Inputs PolishFault)
images_from texture None = None
images_from texture (Some bytes) =
    Some (with_images texture (images_of (want_of texture.shape) bytes))

-- the inputs after the texture is read; after a fault of the texture, the images are not read
abbrev pub with_texture : Option (List ℕ) → Result File KtxFault
    → Option (Result Inputs PolishFault)
with_texture images (Ok texture) = images_from texture images
with_texture images (Err fault) = Some (Err (IsNoTexture fault))

-- the values of the files of the images and of the texture; None if one of them is missing
abbrev pub texture_from : Option (List ℕ) → Option (List ℕ) → Option (Result Inputs PolishFault)
texture_from images None = None
texture_from images (Some bytes) = with_texture images (ktx_of bytes)

-- what the files of these names are read as: the texture, and then the images
unfoldable pub inputs_in : List ℕ → List ℕ → Files → Option (Result Inputs PolishFault)
inputs_in images texture files = texture_from (file_at files images) (file_at files texture)

-- the fault of an input that an outcome speaks of
abbrev pub fault_of : Outcome → Option PolishFault
fault_of (Ktx fault) = Some (IsNoTexture fault)
fault_of (Image fault) = Some (AreNoImages fault)
fault_of _ = None

-- ---- what is made of it

-- the mip chain of the images, as long as the texture's
abbrev pub levels_of : Inputs → List Pictures
levels_of inputs = chain_of inputs.images inputs.texture.shape.levels

-- a block is settled, with this error, for its place of its image of its level, if what the texture
-- shows there is proposed
abbrev pub IsPolishedAt : AuditJob → Inputs → ℕ → ℕ → ℕ → ℕ → ℕ → List ℕ → ℕ → Type 0
IsPolishedAt job inputs level element face row column block e =
    IsSettledFor (way_of inputs.texture.shape.name
    (unadvised (settings_for job inputs.texture.shape.flavour)))
    (source_of (sides_of inputs.texture.shape.name).0 (sides_of inputs.texture.shape.name).1
    (images_in (levels_of inputs) level) (element * inputs.texture.shape.faces + face)
    column row)
    (proposed_at (way_of inputs.texture.shape.name
    (unadvised (settings_for job inputs.texture.shape.flavour))) inputs.texture.blocks
    (place_of inputs.texture.shape level element face row column)) block e

-- The framing of blocks each of which is settled for its place and no further from it than the
-- texture's, and the report of their errors.
pub record Polishes (job : AuditJob) (inputs : Inputs) (file : List ℕ)
    (lines : List (List ℕ)) : Type 0 where
  pub blocks : List (List ℕ)
  pub errors : List ℕ
  pub blocks_full : AreBlocks inputs.texture.shape blocks
  pub errors_full : length errors ≡ length blocks
  pub each : (level element face row column : ℕ)
      → HasBlock inputs.texture.shape level element face row column
      → IsPolishedAt job inputs level element face row column
      (slice_index_or blocks (place_of inputs.texture.shape level element face row column) [])
      (slice_index errors (place_of inputs.texture.shape level element face row column))
  pub no_worse : AreNoWorse
      (way_of inputs.texture.shape.name (unadvised (settings_for job inputs.texture.shape.flavour)))
      inputs.texture.blocks (sources inputs.texture.shape (levels_of inputs)) errors
  pub framed : file ≡ ktx inputs.texture.shape blocks
  pub cut : ktx_of file ≡ Ok (record { shape = inputs.texture.shape; blocks = blocks })
  pub told : lines ≡ report_lines inputs.texture.shape errors

-- a prefix of k bytes of the file: all blocks are settled before it begins
abbrev pub BeginsPolish : AuditJob → Inputs → ℕ → List ℕ → Type 0
BeginsPolish job inputs k file = (lines : List (List ℕ)) × Polishes job inputs file lines
