-- The job of the words of a command line, or their fault.
use Rattle.std.specs.Prelude.{ℕ, Bool, true, false, if◌then◌else◌, List, [], ◌∷◌, length, Option, Some, None, Result, Ok, Err, codes, unwrap_or}
use Rattle.std.specs.Str.{bytes_eq}
use Rattle.astc_model.specs.Weights.{even_weights}
use Rattle.astc_model.specs.declared.footprint_name.FootprintName.{FootprintName}
use Rattle.astc_model.specs.declared.flavour.Flavour.{Flavour}
use Rattle.astc_model.specs.declared.preset.Preset.{Preset}
use Rattle.astc_model.specs.declared.flavour.Flavour.TheVariants.{Linear, Srgb}
use Rattle.astc_words.specs.declared.command.Command.{Command}
use Rattle.astc_words.specs.declared.command.Command.TheVariants.{Pack as PackWord, Unpack as UnpackWord, Audit as AuditWord, Trial as TrialWord, Import as ImportWord, Export as ExportWord, PackKtx as PackKtxWord}
use Rattle.astc_words.specs.declared.job.Job.{Job}
use Rattle.astc_words.specs.declared.job.Job.TheVariants.{Pack, Unpack, Audit, Trial, Import, Export, PackKtx}
use Rattle.astc_words.specs.declared.job.PackJob.{PackJob}
use Rattle.astc_words.specs.declared.job.Levels.TheVariants.{Number}
use Rattle.astc_words.specs.declared.options.OptionsSoFar.{OptionsSoFar}
use Rattle.astc_words.specs.declared.options.Taker.{Taker}
use Rattle.astc_words.specs.declared.options.Taker.TheVariants.{Pack as PackTaker, PackKtx as PackKtxTaker, Import as ImportTaker, Audit as AuditTaker}
use Rattle.astc_words.specs.declared.fault.UsageFault.{UsageFault}
use Rattle.astc_words.specs.declared.fault.UsageFault.TheVariants.{NoCommand, UnknownCommand, MissingWord, ExtraWord}
use Rattle.astc_words.specs.Values.{number_at, footprint_at, preset_at, ◌>>=◌}
use Rattle.astc_words.specs.Options.{no_options, options_from}
use Rattle.astc_words.specs.Commands.{command_of}

-- the words end before a required word
abbrev pub missing : {A : Type 0} → List (List ℕ) → Result A UsageFault
missing words = Err (MissingWord (length words))

-- a pack of this footprint and preset; what no option says is as without it
abbrev pub pack_with : FootprintName → Preset → OptionsSoFar → PackJob
pack_with name preset options = record {
  name = name;
  preset = preset;
  elements = unwrap_or options.elements 0;
  cube = options.cube;
  levels = unwrap_or options.levels (Number 1);
  advised = options.advised;
  fitted = options.fitted;
  srgb = options.srgb;
  weights = unwrap_or options.weights even_weights;
}

-- `FOOTPRINT PRESET` and the options, words 3, 4 and those from 5 on
abbrev pub packing : Taker → List ℕ → List ℕ → List (List ℕ) → Result PackJob UsageFault
packing taker footprint preset options = do
  name ← footprint_at 3 footprint
  preset ← preset_at 4 preset
  options ← options_from taker 5 no_options options
  Ok (pack_with name preset options)

-- `pack IN OUT FOOTPRINT PRESET`, `packktx IN OUT FOOTPRINT PRESET`, then options
abbrev pub pack_job : Taker → List (List ℕ) → Result PackJob UsageFault
pack_job taker (word ∷ input ∷ output ∷ footprint ∷ preset ∷ options) =
    packing taker footprint preset options
pack_job taker words = missing words

-- `unpack IN OUT`
abbrev pub unpack_job : List (List ℕ) → Result Job UsageFault
unpack_job (word ∷ input ∷ output ∷ []) = Ok Unpack
unpack_job (word ∷ input ∷ output ∷ extra ∷ words) = Err (ExtraWord 3)
unpack_job words = missing words

-- `PRESET` and the options, word 3 and those from 4 on
abbrev pub auditing : List ℕ → List (List ℕ) → Result Job UsageFault
auditing preset options = do
  preset ← preset_at 3 preset
  options ← options_from AuditTaker 4 no_options options
  Ok (Audit (record { preset = preset; weights = unwrap_or options.weights even_weights }))

-- `audit KTX PAM PRESET`, then options
abbrev pub audit_job : List (List ℕ) → Result Job UsageFault
audit_job (word ∷ texture ∷ images ∷ preset ∷ options) = auditing preset options
audit_job words = missing words

-- `NUMBER W H FOOTPRINT PRESET`, words 1 to 5: a number of 32 bits and sides of 1 to 1024
abbrev pub trying : List ℕ → List ℕ → List ℕ → List ℕ → List ℕ → Bool → Result Job UsageFault
trying number width height footprint preset fitted = do
  number ← number_at 1 0 4294967295 number
  width ← number_at 2 1 1024 width
  height ← number_at 3 1 1024 height
  name ← footprint_at 4 footprint
  preset ← preset_at 5 preset
  Ok (Trial (record {
    number = number;
    width = width;
    height = height;
    name = name;
    preset = preset;
    fitted = fitted;
  }))

-- whether the words after the preset of a trial, from word 6 on, are `fitted`; without words, no;
-- the first other word is one too many
abbrev pub is_fitted : List (List ℕ) → Result Bool UsageFault
is_fitted [] = Ok false
is_fitted (word ∷ []) = if bytes_eq word (codes "fitted") then Ok true else Err (ExtraWord 6)
is_fitted (word ∷ extra ∷ words) =
    Err (if bytes_eq word (codes "fitted") then ExtraWord 7 else ExtraWord 6)

-- `trial NUMBER W H FOOTPRINT PRESET`, then `fitted` or nothing
abbrev pub trial_job : List (List ℕ) → Result Job UsageFault
trial_job (word ∷ number ∷ width ∷ height ∷ footprint ∷ preset ∷ options) =
    is_fitted options >>= λ fitted. trying number width height footprint preset fitted
trial_job words = missing words

-- sRGB with the option, linear without it
abbrev pub flavour_of : Bool → Flavour
flavour_of srgb = if srgb then Srgb else Linear

-- the options, those from word 3 on
abbrev pub importing : List (List ℕ) → Result Job UsageFault
importing options = options_from ImportTaker 3 no_options options >>= λ options.
    Ok (Import (flavour_of options.srgb))

-- `import IN OUT`, then options
abbrev pub import_job : List (List ℕ) → Result Job UsageFault
import_job (word ∷ input ∷ output ∷ options) = importing options
import_job words = missing words

-- `LEVEL ELEMENT FACE`, words 3 to 5: at most 13, 2047 and 5
abbrev pub exporting : List ℕ → List ℕ → List ℕ → Result Job UsageFault
exporting level element face = do
  level ← number_at 3 0 13 level
  element ← number_at 4 0 2047 element
  face ← number_at 5 0 5 face
  Ok (Export (record { level = level; element = element; face = face }))

-- `export IN OUT LEVEL ELEMENT FACE`
abbrev pub export_job : List (List ℕ) → Result Job UsageFault
export_job (word ∷ input ∷ output ∷ level ∷ element ∷ face ∷ []) = exporting level element face
export_job (word ∷ input ∷ output ∷ level ∷ element ∷ face ∷ extra ∷ words) = Err (ExtraWord 6)
export_job words = missing words

-- what the words of a command ask for
abbrev pub job_in : Command → List (List ℕ) → Result Job UsageFault
job_in PackWord words = pack_job PackTaker words >>= λ job. Ok (Pack job)
job_in UnpackWord words = unpack_job words
job_in AuditWord words = audit_job words
job_in TrialWord words = trial_job words
job_in ImportWord words = import_job words
job_in ExportWord words = export_job words
job_in PackKtxWord words = pack_job PackKtxTaker words >>= λ job. Ok (PackKtx job)

-- ... after it is known which command the first word names, if any
abbrev pub job_under : Option Command → List (List ℕ) → Result Job UsageFault
job_under None words = Err UnknownCommand
job_under (Some command) words = job_in command words

-- the job of a command line, or the first fault of its words
unfoldable pub job_of : List (List ℕ) → Result Job UsageFault
job_of [] = Err NoCommand
job_of (word ∷ words) = job_under (command_of word) (word ∷ words)
