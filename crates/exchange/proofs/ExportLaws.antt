-- The file that an export makes of an image of a texture, and its ends.
use Rattle.std.proofs.Common.{◌≡◌, ℕ, List, [], ◌∷◌, ◌++◌, Option, Some, None, Result, Err, inl, refl, ◌∙◌, ap}
use Rattle.std.specs.List.{flat_map}
use Rattle.std.proofs.lemmas.List.{append-nil}
use Rattle.tex_shelf.specs.Files.{Files}
use Rattle.astc_model.specs.Chains.{side_at_level}
use Rattle.astc_words.specs.declared.job.ExportJob.{ExportJob}
use Rattle.astc_file.specs.Headers.{header_of}
use Rattle.astc_file.specs.Files.{astc}
use Rattle.ktx_file.specs.declared.fault.KtxFault.{KtxFault}
use Rattle.tex_shelf.specs.declared.stop.Stop.{Stop}
use Rattle.tex_shelf.specs.declared.stop.Stop.TheVariants.{Fault, ReadFault, NoMemory}
use Rattle.texture.specs.Shapes.{image_blocks}
use Rattle.ktx_file.specs.Files.{File, ktx_of}
use Rattle.outcomes.specs.Scenes.{Scene}
use Rattle.outcomes.specs.Outcomes.{read_outcome}
use Rattle.outcomes.specs.declared.outcome.Outcome.TheVariants.{Ktx}
use Rattle.outcomes.specs.Causes.{InputIs, Loads}
use Rattle.outcomes.specs.Ends.{EndsAs}
use Rattle.exchange.specs.Reports.{blocks_line}
use Rattle.exchange.specs.Exports.{Exports, BeginsExport, texture_of, with_texture, exported_blocks, exported, export_fault_of}

pub exports-of : (job : ExportJob) (file : File) (header flat : List ℕ) (blocks : List (List ℕ))
    (n : ℕ)
    → header ≡ header_of file.shape.name (side_at_level file.shape.width job.level)
    (side_at_level file.shape.height job.level)
    → blocks ≡ exported_blocks job file → flat ≡ flat_map (λ block. block) blocks → n
    ≡ image_blocks file.shape job.level
    → Exports job file (header ++ (flat ++ [])) (blocks_line n ∷ [])
unfolding exported astc
exports-of job file header flat blocks n header_is blocks_are flat_is counted = record {
  image = ap (λ x. x ++ (flat ++ [])) header_is
      ∙ ap (λ x. header_of file.shape.name (side_at_level file.shape.width job.level)
      (side_at_level file.shape.height job.level) ++ x)
      (append-nil flat ∙ flat_is ∙ ap (flat_map (λ block. block)) blocks_are);
  told = ap (λ k. blocks_line k ∷ []) counted;
}

-- ---- the end

-- the texture of the input, as far as the requested image needs it
pub asked : (job : ExportJob) (files : Option Files) (name : List ℕ) (read : Result File KtxFault)
    → InputIs ktx_of files name read → InputIs (texture_of job) files name (with_texture job read)
unfolding texture_of
asked job None name read is = tt
asked job (Some files) name read is = (is.0, is.1, ap (with_texture job) is.2)

pub stops-ends : (job : ExportJob) (input output : List ℕ) (before : Scene) (reads_now : ℕ)
    (stop : Stop KtxFault) → Loads ktx_of before.files input before.read_faults reads_now (Err stop)
    → EndsAs (texture_of job) (Exports job) (BeginsExport job) input output before
    (record before { read_faults = reads_now }) (export_fault_of (read_outcome Ktx stop))
    (read_outcome Ktx stop)
stops-ends job input output before reads_now (Fault fault) loads = (
  asked job before.files input (Err fault) loads,
  record { files = refl; target = refl; written = refl },
)
stops-ends job input output before reads_now ReadFault loads =
    (loads, record { files = refl; target = refl; written = refl })
stops-ends job input output before reads_now NoMemory loads =
    inl (record { files = refl; target = refl; written = refl })
