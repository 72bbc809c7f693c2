-- The jobs of the commands over parts and textures of other encoders, or the faults of their words.
use Rattle.std.specs.Prelude.{ℕ, ◌+◌, false, if◌then◌else◌, List, [], ◌∷◌, take, Option, Some, None, Result, Ok, Err, codes, ok_or, unwrap_or}
use Rattle.std.specs.Str.{bytes_eq}
use Rattle.astc_model.specs.Weights.{even_weights}
use Rattle.astc_words.specs.declared.options.Taker.TheVariants.{Audit as AuditTaker, Part as PartTaker}
use Rattle.astc_words.specs.declared.more.MoreCommand.{MoreCommand}
use Rattle.astc_words.specs.declared.more.MoreCommand.TheVariants.{Part as PartWord, Join as JoinWord, Polish as PolishWord}
use Rattle.astc_words.specs.declared.more_jobs.MoreJob.{MoreJob}
use Rattle.astc_words.specs.declared.more_jobs.MoreJob.TheVariants.{Part, Join, Polish}
use Rattle.astc_words.specs.declared.options.OptionsSoFar.{OptionsSoFar}
use Rattle.astc_words.specs.declared.fault.UsageFault.{UsageFault}
use Rattle.astc_words.specs.declared.fault.UsageFault.TheVariants.{NoCommand, UnknownCommand, BadNumber}
use Rattle.astc_words.specs.Values.{number_at, footprint_at, preset_at, ◌>>=◌}
use Rattle.astc_words.specs.Options.{no_options, options_from}
use Rattle.astc_words.specs.Jobs.{missing, pack_with}
use Rattle.astc_words.specs.Parts.{PlaceView, part_place_of}

-- the command that a word names
abbrev pub more_command_of : List ℕ → Option MoreCommand
more_command_of word =
    if bytes_eq word (codes "part") then Some PartWord
    else (if bytes_eq word (codes "join") then Some JoinWord
    else (if bytes_eq word (codes "polish") then Some PolishWord
    else None))

-- the command whose words ask for the job
abbrev pub more_command_by : MoreJob → MoreCommand
more_command_by (Part job) = PartWord
more_command_by Join = JoinWord
more_command_by (Polish job) = PolishWord

-- the number of words of a job at least
abbrev pub least_words : MoreJob → ℕ
least_words (Part job) = 7
least_words Join = 3
least_words (Polish job) = 5

-- words 3 and 4: the place of a part below the number of parts
abbrev pub part_place : List ℕ → List ℕ → Result PlaceView UsageFault
part_place place parts = do
  place ← number_at 3 0 65535 place
  parts ← number_at 4 1 65536 parts
  ok_or (part_place_of place parts) (BadNumber 3)

-- `FOOTPRINT PRESET` and the options, words 5, 6 and those from 7 on; a part is never advised
abbrev pub parting : PlaceView → List ℕ → List ℕ → List (List ℕ) → Result MoreJob UsageFault
parting at footprint preset options = do
  name ← footprint_at 5 footprint
  preset ← preset_at 6 preset
  options ← options_from PartTaker 7 no_options options
  Ok (Part (record {
    at = at;
    pack = pack_with name preset (record options { advised = false });
  }))

-- `part IN OUT PLACE COUNT FOOTPRINT PRESET`, then options
abbrev pub part_job : List (List ℕ) → Result MoreJob UsageFault
part_job (word ∷ input ∷ output ∷ place ∷ parts ∷ footprint ∷ preset ∷ options) =
    part_place place parts >>= λ at. parting at footprint preset options
part_job words = missing words

-- `join OUT PART..`
abbrev pub join_job : List (List ℕ) → Result MoreJob UsageFault
join_job (word ∷ output ∷ part ∷ parts) = Ok Join
join_job words = missing words

-- `PRESET` and the options, word 4 and those from 5 on
abbrev pub polishing : List ℕ → List (List ℕ) → Result MoreJob UsageFault
polishing preset options = do
  preset ← preset_at 4 preset
  options ← options_from AuditTaker 5 no_options options
  Ok (Polish (record { preset = preset; weights = unwrap_or options.weights even_weights }))

-- `polish IN OTHER OUT PRESET`, then the option of an audit
abbrev pub polish_job : List (List ℕ) → Result MoreJob UsageFault
polish_job (word ∷ images ∷ texture ∷ output ∷ preset ∷ options) = polishing preset options
polish_job words = missing words

-- what the words of a command ask for
abbrev pub more_job_in : MoreCommand → List (List ℕ) → Result MoreJob UsageFault
more_job_in PartWord words = part_job words
more_job_in JoinWord words = join_job words
more_job_in PolishWord words = polish_job words

-- ... after it is known which command the first word names, if any
abbrev pub more_job_under : Option MoreCommand → List (List ℕ) → Result MoreJob UsageFault
more_job_under None words = Err UnknownCommand
more_job_under (Some command) words = more_job_in command words

-- the job of a command line, or the first fault of its words
unfoldable pub more_job_of : List (List ℕ) → Result MoreJob UsageFault
more_job_of [] = Err NoCommand
more_job_of (word ∷ words) = more_job_under (more_command_of word) (word ∷ words)

-- ---- the files

-- the names that a command opens, among the words after it that exist
abbrev pub opened_by : Option MoreCommand → List (List ℕ) → List (List ℕ)
opened_by (Some PartWord) words = take 1 words
opened_by (Some JoinWord) (output ∷ parts) = parts
opened_by (Some PolishWord) words = take 2 words
opened_by _ words = []

-- the names that it creates
abbrev pub created_by : Option MoreCommand → List (List ℕ) → List (List ℕ)
created_by (Some PartWord) (input ∷ output ∷ words) = output ∷ []
created_by (Some JoinWord) (output ∷ parts) = output ∷ []
created_by (Some PolishWord) (images ∷ texture ∷ output ∷ words) = output ∷ []
created_by _ words = []

-- the names that the words open and create
abbrev pub opened : List (List ℕ) → List (List ℕ)
opened [] = []
opened (word ∷ words) = opened_by (more_command_of word) words

abbrev pub created : List (List ℕ) → List (List ℕ)
created [] = []
created (word ∷ words) = created_by (more_command_of word) words
