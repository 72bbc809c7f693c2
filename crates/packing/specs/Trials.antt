-- A trial: a picture that is made of a number, packed and reported.
use Rattle.std.specs.Prelude.{◌≡◌, ◌≤◌, ◌⊎◌, ℕ, ◌+◌, ◌*◌, false, List, [], ◌∷◌, ◌++◌, length, slice_index_or, codes, Option}
use Rattle.std.specs.Fmt.{decimal}
use Rattle.tex_shelf.specs.Files.{with_file, with_text}
use Rattle.tex_shelf.specs.Faults.{Rose}
use Rattle.astc_model.specs.Blocks.{mean_values}
use Rattle.astc_model.specs.FootprintNames.{sides_of}
use Rattle.astc_model.specs.Reading.{constant_block_bytes}
use Rattle.astc_model.specs.Weights.{even_weights}
use Rattle.astc_model.specs.declared.preset.Preset.TheVariants.{Flat}
use Rattle.astc_words.specs.declared.job.PackJob.{PackJob}
use Rattle.astc_words.specs.declared.job.TrialJob.{TrialJob}
use Rattle.astc_words.specs.declared.job.Levels.TheVariants.{Number}
use Rattle.images.specs.Chains.{chain_of}
use Rattle.images.specs.Pictures.{Pictures, source_of}
use Rattle.images.specs.TrialPictures.{trial_picture}
use Rattle.pam_image.specs.Written.{written}
use Rattle.texture.specs.declared.shape.Shape.{Shape}
use Rattle.texture.specs.Extents.{covering}
use Rattle.texture.specs.Places.{place_of, HasBlock}
use Rattle.outcomes.specs.declared.outcome.Outcome.{Outcome}
use Rattle.outcomes.specs.declared.outcome.Outcome.TheVariants.{Done, WriteFault, ReportFault, Memory}
use Rattle.outcomes.specs.Causes.{IsPartlyTold, text_of}
use Rattle.outcomes.specs.Scenes.{Scene}
use Rattle.outcomes.specs.Ends.{WritesNothing, EndsAfterReading}
use Rattle.packing.specs.Packed.{Packs, BeginsPack, shape_of}
use Rattle.packed_levels.specs.Sources.{images_in}

-- the pack of a trial: one image, one level, and no option but `fitted`
abbrev pub pack_of : TrialJob → PackJob
pack_of job = record {
  name = job.name;
  preset = job.preset;
  elements = 0;
  cube = false;
  levels = Number 1;
  advised = false;
  fitted = job.fitted;
  srgb = false;
  weights = even_weights;
}

-- the sides that a picture may have
pub record IsSmall (job : TrialJob) : Type 0 where
  pub width_some : 1 ≤ job.width
  pub width_most : job.width ≤ 1024
  pub height_some : 1 ≤ job.height
  pub height_most : job.height ≤ 1024

-- the picture that the job's number makes, of the job's sides
abbrev pub picture_of : TrialJob → Pictures
picture_of job = trial_picture job.number job.width job.height

-- the blocks that cover the picture
abbrev pub block_count : TrialJob → ℕ
block_count job = covering job.height (sides_of job.name).1 * covering job.width
    (sides_of job.name).0

-- `file N`
abbrev pub file_line : ℕ → List ℕ
file_line size = codes "file " ++ (decimal size ++ 10 ∷ [])

-- each block of these levels is the mean constant of its source
abbrev pub AreMeanConstants : Shape → List Pictures → List (List ℕ) → Type 0
AreMeanConstants shape levels blocks =
    (level element face row column : ℕ) → HasBlock shape level element face row column
    → slice_index_or blocks (place_of shape level element face row column) []
    ≡ constant_block_bytes (mean_values (source_of (sides_of shape.name).0 (sides_of shape.name).1
    (images_in levels level) (element * shape.faces + face) column row))

-- the file and the lines that a trial makes: those of a pack of its picture, without advisers, and
-- then the file's length
pub record Tries (job : TrialJob) (file : List ℕ) (lines : List (List ℕ)) : Type 0 where
  pub told : List (List ℕ)
  pub packed : Packs (pack_of job) false [] [] (picture_of job) file told
  pub lines_are : lines ≡ told ++ file_line (length file) ∷ []
  pub size : length file ≡ 92 + 4 + 16 * block_count job
  pub flat : job.preset ≡ Flat → job.fitted ≡ false
      → AreMeanConstants (shape_of (pack_of job) (picture_of job))
      (chain_of (picture_of job) (shape_of (pack_of job) (picture_of job)).levels) packed.blocks

-- and a prefix of the file
abbrev pub BeginsTrial : TrialJob → ℕ → List ℕ → Type 0
BeginsTrial job k file = BeginsPack (pack_of job) false (picture_of job) k file

-- the scene with the picture as the file `in`
abbrev pub with_picture : TrialJob → Scene → Scene
with_picture job before =
    record before { files = with_file before.files (codes "in") (written (picture_of job)) }

-- how a trial ends over a shelf that never fails: nothing was written, or the picture, and then
-- `out`
abbrev pub TrialEnds : TrialJob → Scene → Scene → Outcome → Type 0
TrialEnds job before after WriteFault = ⊥
TrialEnds job before after Memory =
    WritesNothing before after ⊎ EndsAfterReading Tries BeginsTrial job (codes "out")
    (with_picture job before) after Memory
TrialEnds job before after outcome = EndsAfterReading Tries BeginsTrial job (codes "out")
    (with_picture job before) after outcome

-- the first lines of a trial's report were written
abbrev pub TellsPart : TrialJob → Option (List ℕ) → Option (List ℕ) → Type 0
TellsPart job before now = (file : List ℕ) × (lines : List (List ℕ)) × Tries job file lines
    × IsPartlyTold before now lines

-- the report of a trial, whatever its files are: all lines, or some because the report's count of
-- faults rose or memory ran out
abbrev pub TrialTells : TrialJob → Option (List ℕ) → Option (List ℕ) → ℕ → ℕ → Outcome → Type 0
TrialTells job before now faults faults_now Done =
    (file : List ℕ) × (lines : List (List ℕ)) × Tries job file lines
    × (now ≡ with_text before (text_of lines))
TrialTells job before now faults faults_now ReportFault = Rose faults faults_now
    × TellsPart job before now
TrialTells job before now faults faults_now Memory = (now ≡ before) ⊎ TellsPart job before now
TrialTells job before now faults faults_now _ = ⊥
