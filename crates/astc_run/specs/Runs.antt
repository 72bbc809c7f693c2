-- How a run of the program ends, by its words.
use Rattle.std.specs.Prelude.{◌≡◌, ⊤, ℕ, Bool, true, false, List, [], slice_index_or, Result, Ok, Err}
use Rattle.astc_words.specs.declared.fault.UsageFault.{UsageFault}
use Rattle.astc_words.specs.declared.job.PackJob.{PackJob}
use Rattle.astc_words.specs.declared.job.TrialJob.{TrialJob}
use Rattle.astc_words.specs.declared.job.Job.{Job}
use Rattle.astc_words.specs.declared.job.Job.TheVariants.{Pack, Unpack, Audit, Trial, Import, Export, PackKtx}
use Rattle.astc_words.specs.Jobs.{job_of}
use Rattle.adviser_pool.specs.Advisers.{AdviserState}
use Rattle.pam_image.specs.Reading.{images_of}
use Rattle.ktx_file.specs.Files.{ktx_of}
use Rattle.ktx_source.specs.Sources.{source_of}
use Rattle.astc_file.specs.Files.{astc_of}
use Rattle.outcomes.specs.declared.outcome.Outcome.{Outcome}
use Rattle.outcomes.specs.declared.outcome.Outcome.TheVariants.{Usage}
use Rattle.outcomes.specs.Outcomes.{image_fault_of, ktx_fault_of, astc_fault_of, source_fault_of}
use Rattle.outcomes.specs.Scenes.{Scene}
use Rattle.outcomes.specs.Ends.{Ends}
use Rattle.packed_levels.specs.Settling.{way_of}
use Rattle.packed_levels.specs.Serving.{Keeps}
use Rattle.packing.specs.Packed.{want_of, options_of, Packs, BeginsPack}
use Rattle.packing.specs.SourcePacked.{PacksSource, BeginsSourcePack}
use Rattle.packing.specs.Trials.{TrialTells}
use Rattle.unpacking.specs.Unpacked.{Unpacks, BeginsUnpack}
use Rattle.astc_audit.specs.Ends.{AuditEnds}
use Rattle.exchange.specs.Imports.{Imports, BeginsImport}
use Rattle.exchange.specs.Exports.{Exports, BeginsExport, texture_of, export_fault_of}

-- a pack of the files of these names
pub record PackEnds (job : PackJob) (input output : List ℕ) (fits : Bool)
    (advisers_before advisers_after : List AdviserState) (before after : Scene)
    (outcome : Outcome) : Type 0 where
  pub ends : Ends (images_of (want_of job)) image_fault_of
      (Packs job fits advisers_before advisers_after) (BeginsPack job fits) input output before
      after outcome
  pub kept : Keeps (way_of job.name (options_of job fits)) advisers_before advisers_after

-- a pack of the stored levels of these files
pub record SourcePackEnds (job : PackJob) (input output : List ℕ) (fits : Bool)
    (advisers_before advisers_after : List AdviserState) (before after : Scene)
    (outcome : Outcome) : Type 0 where
  pub ends : Ends source_of source_fault_of (PacksSource job fits advisers_before advisers_after)
      (BeginsSourcePack job fits) input output before after outcome
  pub kept : Keeps (way_of job.name (options_of job fits)) advisers_before advisers_after

-- a trial over a shelf in memory: files and target stay, and the report is that of a trial
pub record TrialRunEnds (job : TrialJob) (before after : Scene) (outcome : Outcome) : Type 0 where
  pub files : after.files ≡ before.files
  pub target : after.target ≡ before.target
  pub tells : TrialTells job before.written after.written before.report_faults after.report_faults
      outcome

-- a job over the files of words 1 and 2
abbrev pub JobEnds : Job → List ℕ → List ℕ → Bool → List AdviserState → List AdviserState → Scene
    → Scene → Outcome → Type 0
JobEnds (Pack job) first second fits advisers_before advisers_after before after outcome =
    PackEnds job first second fits advisers_before advisers_after before after outcome
JobEnds (Audit job) first second fits advisers_before advisers_after before after outcome =
    AuditEnds job first second before after outcome
JobEnds Unpack first second fits advisers_before advisers_after before after outcome =
    Ends ktx_of ktx_fault_of Unpacks BeginsUnpack first second before after outcome
JobEnds (Import flavour) first second fits advisers_before advisers_after before after outcome =
    Ends astc_of astc_fault_of (Imports flavour) (BeginsImport flavour) first second before after
    outcome
JobEnds (Export job) first second fits advisers_before advisers_after before after outcome =
    Ends (texture_of job) export_fault_of (Exports job) (BeginsExport job) first second before after
    outcome
JobEnds (PackKtx job) first second fits advisers_before advisers_after before after outcome =
    SourcePackEnds job first second fits advisers_before advisers_after before after outcome
JobEnds (Trial job) first second fits advisers_before advisers_after before after outcome =
    TrialRunEnds job before after outcome

-- the words' fault exactly if they have one, else the end of their job
abbrev pub RunEndsAs : Result Job UsageFault → List (List ℕ) → Bool → List AdviserState
    → List AdviserState → Scene → Scene → Outcome → Type 0
RunEndsAs (Ok job) words fits advisers_before advisers_after before after outcome =
    JobEnds job (slice_index_or words 1 []) (slice_index_or words 2 []) fits advisers_before
    advisers_after before after outcome
RunEndsAs (Err fault) words fits advisers_before advisers_after before after outcome =
    outcome ≡ Usage fault

-- the end of a run, by its words, with a pool that fits or does not, between the advisers and
-- scenes before and after it
abbrev pub RunEnds : List (List ℕ) → Bool → List AdviserState → List AdviserState → Scene → Scene
    → Outcome → Type 0
RunEnds words fits advisers_before advisers_after before after outcome =
    RunEndsAs (job_of words) words fits advisers_before advisers_after before after outcome

-- the outcome is that the words have a fault
abbrev pub IsUsage : Outcome → Type 0
IsUsage (Usage fault) = ⊤
IsUsage outcome = ⊥

-- the job queries advisers
abbrev pub is_advised : Job → Bool
is_advised (Pack job) = job.advised
is_advised (PackKtx job) = job.advised
is_advised job = false

-- the same of the job that words ask for; words with a fault ask for none
abbrev pub are_advised_by : Result Job UsageFault → Bool
are_advised_by (Ok job) = is_advised job
are_advised_by (Err fault) = false

-- the job of the words queries advisers
abbrev pub are_advised : List (List ℕ) → Bool
are_advised words = are_advised_by (job_of words)

-- the job is a trial
abbrev pub is_trial : Job → Bool
is_trial (Trial job) = true
is_trial job = false

-- the same of the job that words ask for; words with a fault ask for none
abbrev pub are_trial_by : Result Job UsageFault → Bool
are_trial_by (Ok job) = is_trial job
are_trial_by (Err fault) = false

-- the words ask for a trial
abbrev pub are_trial : List (List ℕ) → Bool
are_trial words = are_trial_by (job_of words)
