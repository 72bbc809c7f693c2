-- The ends of a command that reads one input, makes a file of it and reports. The value of bytes,
-- the outcome of a fault of theirs, the files and lines that may be made of the value, and the
-- meaning of a prefix of the file are arguments, so that each such command states these four alone.
use Rattle.std.specs.Prelude.{◌≡◌, ⊤, ℕ, List, Option, Some, None, Result, Ok, Err, ◌⊎◌, take}
use Rattle.std.specs.List.{flat_map}
use Rattle.tex_shelf.specs.Files.{Files, file_at, stored, with_text}
use Rattle.tex_shelf.specs.Faults.{Rose}
use Rattle.outcomes.specs.declared.outcome.Outcome.{Outcome}
use Rattle.outcomes.specs.declared.outcome.Outcome.TheVariants.{Done, ReadFault, WriteFault, ReportFault, Memory}
use Rattle.outcomes.specs.Scenes.{Scene}
use Rattle.outcomes.specs.Causes.{InputIs, IsPartlyTold}

-- the files and lines that may be made of the value that was read
abbrev pub Making : Type 0 → Type 1
Making Read = Read → List ℕ → List (List ℕ) → Type 0

-- which file may be made of it, so far as its first k bytes say
abbrev pub Beginning : Type 0 → Type 1
Beginning Read = Read → ℕ → List ℕ → Type 0

-- if the files are known, the file with this name has these bytes
abbrev pub Stands : Option Files → List ℕ → List ℕ → Type 0
Stands None name bytes = ⊤
Stands (Some files) name bytes = file_at files name ≡ Some bytes

-- the file was made and written, and nothing else has changed
pub record Writes {Read : Type 0} (makes : Making Read) (read : Read) (output : List ℕ)
    (before after : Scene) : Type 0 where
  pub file : List ℕ
  pub lines : List (List ℕ)
  pub made : makes read file lines
  pub stands : Stands after.files output file
  pub files : after.files ≡ stored before.files output file
  pub target : after.target ≡ Some output

-- a prefix of the file was made and written, or none of it, and nothing else has changed
pub record WritesPart {Read : Type 0} (begins : Beginning Read) (read : Read) (output : List ℕ)
    (before after : Scene) : Type 0 where
  pub file : List ℕ
  pub front : ℕ
  pub begun : begins read front file
  pub files : (after.files ≡ before.files)
      ⊎ (after.files ≡ stored before.files output (take front file))
  pub written : after.written ≡ before.written

-- nothing was written
pub record WritesNothing (before after : Scene) : Type 0 where
  pub files : after.files ≡ before.files
  pub target : after.target ≡ before.target
  pub written : after.written ≡ before.written

-- it was written, and the whole report of it and nothing else
pub record WritesAndTells {Read : Type 0} (makes : Making Read) (read : Read) (output : List ℕ)
    (before after : Scene) : Type 0 where
  pub writes : Writes makes read output before after
  pub tells : after.written ≡ with_text before.written (flat_map (λ line. line) writes.lines)

-- it was written, and the first lines of that report
pub record WritesAndTellsPart {Read : Type 0} (makes : Making Read) (read : Read) (output : List ℕ)
    (before after : Scene) : Type 0 where
  pub writes : Writes makes read output before after
  pub tells : IsPartlyTold before.written after.written writes.lines

-- how it ends after the input is read, case by case
abbrev pub EndsAfterReading : {Read : Type 0} → Making Read → Beginning Read → Read → List ℕ → Scene
    → Scene → Outcome → Type 0
EndsAfterReading makes begins read output before after Done =
    WritesAndTells makes read output before after
EndsAfterReading makes begins read output before after WriteFault =
    Rose before.write_faults after.write_faults × WritesPart begins read output before after
EndsAfterReading makes begins read output before after ReportFault =
    Rose before.report_faults after.report_faults
    × WritesAndTellsPart makes read output before after
EndsAfterReading makes begins read output before after Memory =
    WritesNothing before after
    ⊎ (WritesPart begins read output before after
    ⊎ WritesAndTellsPart makes read output before after)
EndsAfterReading makes begins read output before after _ = ⊥

-- how it ends, if the outcome speaks of this fault of the input, or of none
abbrev pub EndsAs : {Read Fault : Type 0} → (List ℕ → Result Read Fault) → Making Read
    → Beginning Read → List ℕ → List ℕ → Scene → Scene → Option Fault → Outcome → Type 0
EndsAs reading makes begins input output before after (Some fault) outcome =
    InputIs reading before.files input (Err fault) × WritesNothing before after
EndsAs reading makes begins input output before after None ReadFault =
    Rose before.read_faults after.read_faults × WritesNothing before after
EndsAs {Read = Read} reading makes begins input output before after None Memory =
    WritesNothing before after
    ⊎ ((read : Read) × InputIs reading before.files input (Ok read)
    × EndsAfterReading makes begins read output before after Memory)
EndsAs {Read = Read} reading makes begins input output before after None outcome =
    (read : Read) × InputIs reading before.files input (Ok read)
    × EndsAfterReading makes begins read output before after outcome

-- A known input with a fault gives that fault if no read failed, unless memory ran out.
abbrev pub FaultsAlways : {Read Fault : Type 0} → (List ℕ → Result Read Fault)
    → (Outcome → Option Fault) → List ℕ → Scene → Scene → Outcome → Type 0
FaultsAlways {Fault = Fault} reading fault_of input before after outcome =
    (known : Files) (bytes : List ℕ) (fault : Fault) → before.files ≡ Some known
    → file_at known input ≡ Some bytes → reading bytes ≡ Err fault
    → (Rose before.read_faults after.read_faults → ⊥) → (fault_of outcome ≡ Some fault)
    ⊎ (outcome ≡ Memory)

-- A known input with a value gives success if nothing failed, unless memory ran out.
abbrev pub SucceedsAlways : {Read Fault : Type 0} → (List ℕ → Result Read Fault) → List ℕ → Scene
    → Scene → Outcome → Type 0
SucceedsAlways {Read = Read} reading input before after outcome =
    (known : Files) (bytes : List ℕ) (read : Read) → before.files ≡ Some known → file_at known input
    ≡ Some bytes → reading bytes ≡ Ok read
    → (Rose before.read_faults after.read_faults → ⊥) → (Rose before.write_faults after.write_faults
    → ⊥) → (Rose before.report_faults after.report_faults → ⊥)
    → (outcome ≡ Done) ⊎ (outcome ≡ Memory)

-- how such a command ends, and that it gives up for no other cause
pub record Ends {Read Fault : Type 0} (reading : List ℕ → Result Read Fault) (fault_of : Outcome
    → Option Fault) (makes : Making Read)
    (begins : Beginning Read) (input output : List ℕ) (before after : Scene)
    (outcome : Outcome) : Type 0 where
  pub ends : EndsAs reading makes begins input output before after (fault_of outcome) outcome
  pub faults_always : FaultsAlways reading fault_of input before after outcome
  pub succeeds_always : SucceedsAlways reading input before after outcome
