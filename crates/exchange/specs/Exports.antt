-- The file that an export makes of a texture: one of its images.
use Rattle.std.specs.Prelude.{◌≡◌, ℕ, ◌+◌, ◌*◌, max, nat_lt, if◌then◌else◌, List, [], ◌∷◌, take, drop, Option, Some, None, Result, Ok, Err}
use Rattle.astc_model.specs.Chains.{side_at_level}
use Rattle.astc_words.specs.declared.job.ExportJob.{ExportJob}
use Rattle.astc_file.specs.Files.{astc}
use Rattle.texture.specs.declared.shape.Shape.{Shape}
use Rattle.ktx_file.specs.declared.fault.KtxFault.{KtxFault}
use Rattle.texture.specs.Shapes.{image_blocks}
use Rattle.texture.specs.Places.{first_block}
use Rattle.ktx_file.specs.Files.{File, ktx_of}
use Rattle.outcomes.specs.declared.outcome.Outcome.{Outcome}
use Rattle.outcomes.specs.declared.outcome.Outcome.TheVariants.{Ktx, Absent}
use Rattle.exchange.specs.Reports.{blocks_line}

-- the reason why no image is exported: the input is not a texture, or the texture has no image with
-- these numbers, and the word at a place is too great
pub data ExportFault : Type 0 where
  IsNoTexture : KtxFault → ExportFault
  IsAbsent : ℕ → ExportFault

-- the first of the words 3, 4, 5 whose number is none of the texture's
abbrev pub absent_of : ExportJob → Shape → Option ℕ
absent_of job shape =
    if nat_lt job.level shape.levels
    then (if nat_lt job.element (max 1 shape.elements)
    then (if nat_lt job.face shape.faces then None else Some 5)
    else Some 4)
    else Some 3

-- the texture, or the fault of the word at this place, which is too great
abbrev pub with_image : File → Option ℕ → Result File ExportFault
with_image file None = Ok file
with_image file (Some place) = Err (IsAbsent place)

-- the texture that was read, if it has the requested image
abbrev pub with_texture : ExportJob → Result File KtxFault → Result File ExportFault
with_texture job (Ok file) = with_image file (absent_of job file.shape)
with_texture job (Err fault) = Err (IsNoTexture fault)

-- the texture that the bytes are, if it has the requested image
unfoldable pub texture_of : ExportJob → List ℕ → Result File ExportFault
texture_of job bytes = with_texture job (ktx_of bytes)

-- the fault of the input that an outcome speaks of
abbrev pub export_fault_of : Outcome → Option ExportFault
export_fault_of (Ktx fault) = Some (IsNoTexture fault)
export_fault_of (Absent place) = Some (IsAbsent place)
export_fault_of _ = None

-- the blocks of the requested image, in order
abbrev pub exported_blocks : ExportJob → File → List (List ℕ)
exported_blocks job file = take (image_blocks file.shape job.level)
    (drop (first_block file.shape job.level (job.element * file.shape.faces + job.face))
    file.blocks)

-- the file of that image
unfoldable pub exported : ExportJob → File → List ℕ
exported job file = astc file.shape.name (side_at_level file.shape.width job.level)
    (side_at_level file.shape.height job.level) (exported_blocks job file)

-- the file of an export, and the one line of its report: the number of blocks of the image
pub record Exports (job : ExportJob) (file : File) (bytes : List ℕ)
    (lines : List (List ℕ)) : Type 0 where
  pub image : bytes ≡ exported job file
  pub told : lines ≡ blocks_line (image_blocks file.shape job.level) ∷ []

-- the file that k bytes are a prefix of
abbrev pub BeginsExport : ExportJob → File → ℕ → List ℕ → Type 0
BeginsExport job file k bytes = bytes ≡ exported job file
