-- From the steps of a polish to its end.
use Rattle.std.proofs.Common.{ℕ, ◌≤◌, List, Option, Some, None, Result, Ok, Err, refl, ◌∙◌, ap, inl, inr}
use Rattle.tex_shelf.specs.Files.{Files, file_at}
use Rattle.tex_shelf.specs.declared.stop.Stop.{Stop}
use Rattle.tex_shelf.specs.declared.stop.Stop.TheVariants.{Fault, ReadFault as HasReadFault, NoMemory as NoReaderMemory}
use Rattle.pam_header.specs.declared.fault.ImageFault.{ImageFault}
use Rattle.pam_image.specs.Reading.{images_of}
use Rattle.images.specs.Pictures.{Pictures}
use Rattle.ktx_file.specs.declared.fault.KtxFault.{KtxFault}
use Rattle.ktx_file.specs.Files.{File, ktx_of}
use Rattle.astc_audit.specs.Ends.{want_of}
use Rattle.astc_words.specs.declared.job.AuditJob.{AuditJob}
use Rattle.outcomes.specs.declared.outcome.Outcome.{Outcome}
use Rattle.outcomes.specs.declared.outcome.Outcome.TheVariants.{Done, Ktx, ReadFault, WriteFault, ReportFault, Memory}
use Rattle.outcomes.specs.Outcomes.{read_outcome}
use Rattle.outcomes.specs.Scenes.{Scene}
use Rattle.outcomes.specs.Causes.{InputIs, Loads}
use Rattle.outcomes.specs.Ends.{WritesNothing, EndsAfterReading}
use Rattle.outcomes.specs.ManyEnds.{Reading, InputsAre, EndsOverAs}
use Rattle.outcomes.proofs.EndLaws.{after-reading}
use Rattle.tex_shelf.proofs.FaultsLemmas.{rose_since}
use Rattle.polishing.specs.Polished.{PolishFault, IsNoTexture, Inputs, with_images, images_from, with_texture, texture_from, inputs_in, fault_of, Polishes, BeginsPolish}
use Rattle.polishing.specs.Steps.{inputs_with}

-- ---- what is read

-- what is read after the texture is, is read of both
pub both-read : (images texture : List ℕ) (files : Option Files) (file : File)
    (read : Result Inputs PolishFault) → InputIs ktx_of files texture (Ok file)
    → InputsAre (inputs_with file images) files read
    → InputsAre (inputs_in images texture) files read
unfolding inputs_in
both-read images texture None file read is are = tt
both-read images texture (Some files) file read is are =
    ap (texture_from (file_at files images)) is.1 ∙ ap (with_texture (file_at files images)) is.2
    ∙ are

pub no-texture : (images texture : List ℕ) (files : Option Files) (fault : KtxFault)
    → InputIs ktx_of files texture (Err fault) → InputsAre (inputs_in images texture) files
    (Err (IsNoTexture fault))
unfolding inputs_in
no-texture images texture None fault is = tt
no-texture images texture (Some files) fault is = ap (texture_from (file_at files images)) is.1
    ∙ ap (with_texture (file_at files images)) is.2

pub images-read : (images : List ℕ) (files : Option Files) (file : File)
    (read : Result Pictures ImageFault) → InputIs (images_of (want_of file.shape)) files images read
    → InputsAre (inputs_with file images) files (with_images file read)
images-read images None file read is = tt
images-read images (Some files) file read is = ap (images_from file) is.1
    ∙ ap (λ r. Some (with_images file r)) is.2

-- ---- ends

module _ (job : AuditJob) (output : List ℕ) where
  -- an end after reading speaks of no fault of an input
  pub ends-read : (reading : Reading Inputs PolishFault) (inputs : Inputs) (before after : Scene)
      (outcome : Outcome) → InputsAre reading before.files (Ok inputs)
      → EndsAfterReading (Polishes job) (BeginsPolish job) inputs output before after outcome
      → EndsOverAs reading (Polishes job) (BeginsPolish job) output before after
      (fault_of outcome) outcome
  ends-read reading inputs before after Done is ends = (inputs, is, ends)
  ends-read reading inputs before after WriteFault is ends = (inputs, is, ends)
  ends-read reading inputs before after ReportFault is ends = (inputs, is, ends)
  ends-read reading inputs before after Memory is ends = inr (inputs, is, ends)
  ends-read reading inputs before after _ is ends = absurd ends

-- reading the texture changed nothing but the count of faults
module _ (job : AuditJob) (images texture output : List ℕ) (file : File) (before after : Scene)
    (reads_now : ℕ) (later : before.read_faults ≤ reads_now)
    (is : InputIs ktx_of before.files texture (Ok file)) where
  abbrev middle : Scene
  middle = record before { read_faults = reads_now }

  nothing : WritesNothing middle after → WritesNothing before after
  nothing none = record { files = none.files; target = none.target; written = none.written }

  sooner : (inputs : Inputs) (outcome : Outcome) → EndsAfterReading (Polishes job)
      (BeginsPolish job) inputs output middle after outcome → EndsAfterReading (Polishes job)
      (BeginsPolish job) inputs output before after outcome
  sooner inputs outcome ends = after-reading (Polishes job) (BeginsPolish job) inputs output before
      after reads_now outcome ends

  pub ends-both : (asked : Option PolishFault) (outcome : Outcome)
      → EndsOverAs (inputs_with file images) (Polishes job) (BeginsPolish job) output middle after
      asked outcome
      → EndsOverAs (inputs_in images texture) (Polishes job) (BeginsPolish job) output before after
      asked outcome
  ends-both (Some fault) outcome ends =
      (both-read images texture before.files file (Err fault) is ends.0, nothing ends.1)
  ends-both None ReadFault ends =
      (rose_since before.read_faults reads_now after.read_faults later ends.0, nothing ends.1)
  ends-both None Memory (inl none) = inl (nothing none)
  ends-both None Memory (inr some) =
      inr (
        some.0,
        both-read images texture before.files file (Ok some.0) is some.1,
        sooner some.0 Memory
            some.2,
      )
  ends-both None Done ends = (
    ends.0,
    both-read images texture before.files file (Ok ends.0) is ends.1,
    sooner ends.0 Done
        ends.2,
  )
  ends-both None WriteFault ends = (
    ends.0,
    both-read images texture before.files file (Ok ends.0) is ends.1,
    sooner ends.0 WriteFault
        ends.2,
  )
  ends-both None ReportFault ends = (
    ends.0,
    both-read images texture before.files file (Ok ends.0) is ends.1,
    sooner ends.0 ReportFault
        ends.2,
  )
  ends-both None _ ends = absurd ends.2

-- an input was not read, and nothing changed but the count of faults
module _ (job : AuditJob) (images output : List ℕ) (before : Scene) (reads_now : ℕ) where
  abbrev unread : Scene
  unread = record before { read_faults = reads_now }

  untouched : WritesNothing before unread
  untouched = record { files = refl; target = refl; written = refl }

  pub no-texture-ends : (texture : List ℕ) (stop : Stop KtxFault)
      → Loads ktx_of before.files texture before.read_faults reads_now (Err stop)
      → EndsOverAs (inputs_in images texture) (Polishes job) (BeginsPolish job) output before
      unread (fault_of (read_outcome Ktx stop)) (read_outcome Ktx stop)
  no-texture-ends texture (Fault fault) loads =
      (no-texture images texture before.files fault loads, untouched)
  no-texture-ends texture HasReadFault loads = (loads, untouched)
  no-texture-ends texture NoReaderMemory loads = inl untouched
