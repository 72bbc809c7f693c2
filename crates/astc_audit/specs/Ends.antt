-- The ends of an audit, which reads a texture and then its images, changes no file and reports on
-- both.
use Rattle.std.specs.Prelude.{◌≡◌, ◌<◌, ℕ, ◌==◌, List, Option, Some, Ok, Err, ◌⊎◌}
use Rattle.tex_shelf.specs.Files.{Files, file_at, with_text}
use Rattle.tex_shelf.specs.Faults.{Rose}
use Rattle.pam_header.specs.declared.fault.ImageFault.{ImageFault}
use Rattle.pam_image.specs.declared.want.Want.{Want}
use Rattle.pam_image.specs.Reading.{images_of}
use Rattle.images.specs.Pictures.{Pictures}
use Rattle.images.specs.Chains.{chain_of}
use Rattle.ktx_file.specs.declared.fault.KtxFault.{KtxFault}
use Rattle.texture.specs.declared.shape.Shape.{Shape}
use Rattle.texture.specs.Shapes.{image_count}
use Rattle.ktx_file.specs.Files.{File, ktx_of}
use Rattle.astc_words.specs.declared.job.AuditJob.{AuditJob}
use Rattle.outcomes.specs.declared.outcome.Outcome.{Outcome}
use Rattle.outcomes.specs.declared.outcome.Outcome.TheVariants.{Done, Found, Image, Ktx, ReadFault, ReportFault, Memory}
use Rattle.outcomes.specs.Scenes.{Scene}
use Rattle.outcomes.specs.Causes.{InputIs, IsPartlyTold, text_of}
use Rattle.astc_audit.specs.declared.gathering.AuditedImage.{AuditedImage}
use Rattle.astc_audit.specs.Audits.{AreAudited, all_images}
use Rattle.astc_audit.specs.Reports.{report_lines, bad_in}

-- the request for the images of a texture: their number and sides at each level, squares for a
-- texture with six faces
abbrev pub want_of : Shape → Want
want_of shape = record {
  count = image_count shape;
  cube = shape.faces == 6;
  sides = Some (shape.width, shape.height);
}

-- the lines are the report on the texture against these images, with this number of bad blocks
pub record Judges (job : AuditJob) (file : File) (images : Pictures) (lines : List (List ℕ))
    (bad : ℕ) : Type 0 where
  pub audited : List AuditedImage
  pub findings : AreAudited file (chain_of images file.shape.levels) job.preset job.weights
      (all_images file) audited
  pub told : lines ≡ report_lines audited
  pub counted : bad ≡ bad_in audited

-- the whole report was written, with this number of bad blocks
abbrev pub TellsAll : AuditJob → File → Pictures → Option (List ℕ) → Option (List ℕ) → ℕ → Type 0
TellsAll job file images written after bad =
    (lines : List (List ℕ)) × Judges job file images lines bad
    × (after ≡ with_text written (text_of lines))

-- the first lines of it were written
abbrev pub TellsPart : AuditJob → File → Pictures → Option (List ℕ) → Option (List ℕ) → Type 0
TellsPart job file images written after =
    (lines : List (List ℕ)) × (bad : ℕ) × Judges job file images lines bad
    × IsPartlyTold written after lines

-- nothing was written
abbrev pub TellsNothing : Scene → Scene → Type 0
TellsNothing before after = after.written ≡ before.written

-- the end after both files are read, with the written text and the count of faults of the report
-- before and after
abbrev pub EndsWithBoth : AuditJob → File → Pictures → (written after : Option (List ℕ))
    → (before now : ℕ) → Outcome → Type 0
EndsWithBoth job file images written after before now Done =
    TellsAll job file images written after 0
EndsWithBoth job file images written after before now (Found bad) = (0 < bad)
    × TellsAll job file images written after bad
EndsWithBoth job file images written after before now ReportFault = Rose before now
    × TellsPart job file images written after
EndsWithBoth job file images written after before now Memory = (after ≡ written)
    ⊎ TellsPart job file images written after
EndsWithBoth job file images written after before now _ = ⊥

-- how it ends after the texture is read
abbrev pub EndsWithTexture : AuditJob → File → List ℕ → Scene → Scene → Outcome → Type 0
EndsWithTexture job file images before after (Image fault) =
    InputIs (images_of (want_of file.shape)) before.files images (Err fault)
    × TellsNothing before after
EndsWithTexture job file images before after ReadFault = Rose before.read_faults after.read_faults
    × TellsNothing before after
EndsWithTexture job file images before after Memory =
    TellsNothing before after
    ⊎ ((pictures : Pictures) × InputIs (images_of (want_of file.shape)) before.files images
    (Ok pictures) × EndsWithBoth job file pictures before.written after.written
    before.report_faults after.report_faults Memory)
EndsWithTexture job file images before after outcome =
    (pictures : Pictures) × InputIs (images_of (want_of file.shape)) before.files images
    (Ok pictures) × EndsWithBoth job file pictures before.written after.written
    before.report_faults after.report_faults outcome

-- how it ends, case by case
abbrev pub EndsAs : AuditJob → List ℕ → List ℕ → Scene → Scene → Outcome → Type 0
EndsAs job texture images before after (Ktx fault) = InputIs ktx_of before.files texture (Err fault)
    × TellsNothing before after
EndsAs job texture images before after ReadFault = Rose before.read_faults after.read_faults
    × TellsNothing before after
EndsAs job texture images before after Memory =
    TellsNothing before after ⊎ ((file : File) × InputIs ktx_of before.files texture (Ok file)
    × EndsWithTexture job file images before after Memory)
EndsAs job texture images before after outcome =
    (file : File) × InputIs ktx_of before.files texture (Ok file)
    × EndsWithTexture job file images before after outcome

-- A known texture with a fault gives that fault if no read failed, unless memory ran out.
abbrev pub TextureFaultsAlways : List ℕ → Scene → Scene → Outcome → Type 0
TextureFaultsAlways texture before after outcome =
    (known : Files) (bytes : List ℕ) (fault : KtxFault) → before.files ≡ Some known
    → file_at known texture ≡ Some bytes → ktx_of bytes ≡ Err fault
    → (Rose before.read_faults after.read_faults → ⊥) → (outcome ≡ Ktx fault) ⊎ (outcome ≡ Memory)

-- Known images with a fault give that fault if the texture has none.
abbrev pub ImageFaultsAlways : List ℕ → List ℕ → Scene → Scene → Outcome → Type 0
ImageFaultsAlways texture images before after outcome =
    (known : Files) (bytes pictures : List ℕ) (file : File) (fault : ImageFault) → before.files
    ≡ Some known → file_at known texture ≡ Some bytes → ktx_of bytes ≡ Ok file
    → file_at known images ≡ Some pictures → images_of (want_of file.shape) pictures ≡ Err fault
    → (Rose before.read_faults after.read_faults → ⊥) → (outcome ≡ Image fault) ⊎ (outcome ≡ Memory)

-- Known inputs without faults are judged if nothing failed, unless memory ran out.
abbrev pub SucceedsAlways : List ℕ → List ℕ → Scene → Scene → Outcome → Type 0
SucceedsAlways texture images before after outcome =
    (known : Files) (bytes pictures : List ℕ) (file : File) (read : Pictures) → before.files
    ≡ Some known → file_at known texture ≡ Some bytes → ktx_of bytes ≡ Ok file
    → file_at known images ≡ Some pictures → images_of (want_of file.shape) pictures ≡ Ok read
    → (Rose before.read_faults after.read_faults → ⊥)
    → (Rose before.report_faults after.report_faults → ⊥)
    → (outcome ≡ Done) ⊎ (((bad : ℕ) × (outcome ≡ Found bad)) ⊎ (outcome ≡ Memory))

-- how an audit ends, that it gives up for no other cause, and what it leaves as it was
pub record AuditEnds (job : AuditJob) (texture images : List ℕ) (before after : Scene)
    (outcome : Outcome) : Type 0 where
  pub ends : EndsAs job texture images before after outcome
  pub texture_faults_always : TextureFaultsAlways texture before after outcome
  pub image_faults_always : ImageFaultsAlways texture images before after outcome
  pub succeeds_always : SucceedsAlways texture images before after outcome
  pub files : after.files ≡ before.files
  pub target : after.target ≡ before.target
  pub write_faults : after.write_faults ≡ before.write_faults
