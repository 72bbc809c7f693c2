-- The ends of a command that reads several inputs, makes one file of them and reports. The value of
-- the files is an argument, as far as the command reads them: None if a required file is missing.
-- All else is as with one input.
use Rattle.std.specs.Prelude.{◌≡◌, ⊤, Option, Some, None, Result, Ok, Err, List, ℕ, ◌⊎◌}
use Rattle.tex_shelf.specs.Files.{Files}
use Rattle.tex_shelf.specs.Faults.{Rose}
use Rattle.outcomes.specs.declared.outcome.Outcome.{Outcome}
use Rattle.outcomes.specs.declared.outcome.Outcome.TheVariants.{Done, ReadFault, Memory}
use Rattle.outcomes.specs.Scenes.{Scene}
use Rattle.outcomes.specs.Ends.{Making, Beginning, WritesNothing, EndsAfterReading}

-- what a command reads of the files
abbrev pub Reading : Type 0 → Type 0 → Type 0
Reading Read Fault = Files → Option (Result Read Fault)

-- if the files are known: this is their value
abbrev pub InputsAre : {A : Type 0} → (Files → Option A) → Option Files → A → Type 0
InputsAre reading None read = ⊤
InputsAre reading (Some files) read = reading files ≡ Some read

-- how it ends, if the outcome speaks of this fault of an input, or of none
abbrev pub EndsOverAs : {Read Fault : Type 0} → Reading Read Fault → Making Read → Beginning Read
    → List ℕ → Scene → Scene → Option Fault → Outcome → Type 0
EndsOverAs reading makes begins output before after (Some fault) outcome =
    InputsAre reading before.files (Err fault) × WritesNothing before after
EndsOverAs reading makes begins output before after None ReadFault =
    Rose before.read_faults after.read_faults × WritesNothing before after
EndsOverAs {Read = Read} reading makes begins output before after None Memory =
    WritesNothing before after
    ⊎ ((read : Read) × InputsAre reading before.files (Ok read)
    × EndsAfterReading makes begins read output before after Memory)
EndsOverAs {Read = Read} reading makes begins output before after None outcome =
    (read : Read) × InputsAre reading before.files (Ok read)
    × EndsAfterReading makes begins read output before after outcome

-- Known inputs with a fault give that fault if no read failed, unless memory ran out.
abbrev pub FaultsOver : {Read Fault : Type 0} → Reading Read Fault → Option Fault → Scene → Scene
    → Outcome → Type 0
FaultsOver {Fault = Fault} reading asked before after outcome =
    (known : Files) (fault : Fault) → before.files ≡ Some known → reading known ≡ Some (Err fault)
    → (Rose before.read_faults after.read_faults → ⊥) → (asked ≡ Some fault) ⊎ (outcome ≡ Memory)

-- Known inputs with a value give success if nothing failed, unless memory ran out.
abbrev pub SucceedsOver : {Read Fault : Type 0} → Reading Read Fault → Option Fault → Scene → Scene
    → Outcome → Type 0
SucceedsOver {Read = Read} reading asked before after outcome =
    (known : Files) (read : Read) → before.files ≡ Some known → reading known ≡ Some (Ok read)
    → (Rose before.read_faults after.read_faults → ⊥) → (Rose before.write_faults after.write_faults
    → ⊥) → (Rose before.report_faults after.report_faults → ⊥)
    → ((asked ≡ None) × (outcome ≡ Done)) ⊎ (outcome ≡ Memory)

-- how such a command ends, if the outcome speaks of this fault or of none, and that it gives up for
-- no other cause
pub record EndsOver {Read Fault : Type 0} (reading : Reading Read Fault) (makes : Making Read)
    (begins : Beginning Read) (output : List ℕ)
    (before after : Scene) (asked : Option Fault) (outcome : Outcome) : Type 0 where
  pub ends : EndsOverAs reading makes begins output before after asked outcome
  pub faults_always : FaultsOver reading asked before after outcome
  pub succeeds_always : SucceedsOver reading asked before after outcome
