-- From the steps of a command over several inputs to its end.
use Rattle.std.proofs.Common.{◌≡◌, ℕ, List, Option, Some, None, Result, Ok, Err, refl, sym, ◌∙◌, ap, inl, inr, ◌⊎◌}
use Rattle.tex_shelf.specs.Files.{Files}
use Rattle.tex_shelf.specs.Faults.{Rose}
use Rattle.outcomes.specs.declared.outcome.Outcome.{Outcome}
use Rattle.outcomes.specs.declared.outcome.Outcome.TheVariants.{Done, ReadFault, WriteFault, ReportFault, Memory}
use Rattle.outcomes.specs.Scenes.{Scene}
use Rattle.outcomes.specs.Ends.{Making, Beginning, EndsAfterReading}
use Rattle.outcomes.specs.ManyEnds.{Reading, InputsAre, EndsOverAs, FaultsOver, SucceedsOver, EndsOver}
use Rattle.outcomes.proofs.InputLaws.{not-both}

-- known inputs are the values of the files
told-are : {A : Type 0} (reading : Files → Option A) (told : Option Files) (known : Files)
    (read other : A) → told ≡ Some known → reading known ≡ Some other
    → InputsAre reading told read → other ≡ read
told-are reading None known read other same reads is = absurd (cc)
told-are reading (Some files) known read other same reads is =
    let one : files ≡ known = (cc) in
    let both : Some other ≡ Some read = sym reads ∙ ap reading (sym one) ∙ is in
    (cc)

same-fault : {Read Fault : Type 0} (a b : Fault) → ◌≡◌ {A = Result Read Fault} (Err a) (Err b)
    → Some b ≡ Some a
same-fault a b same = (cc)

module _ {Read Fault : Type 0} (reading : Reading Read Fault) (makes : Making Read)
    (begins : Beginning Read) (output : List ℕ) (before after : Scene) where
  faults : (asked : Option Fault) (outcome : Outcome)
      → EndsOverAs reading makes begins output before after asked outcome
      → FaultsOver reading asked before after outcome
  faults (Some other) outcome ends known fault told reads quiet =
      inl (same-fault {Read = Read} fault other (told-are reading before.files known (Err other)
      (Err fault) told reads ends.0))
  faults None ReadFault ends known fault told reads quiet = absurd (quiet ends.0)
  faults None Memory ends known fault told reads quiet = inr refl
  faults None _ ends known fault told reads quiet =
      absurd (not-both ends.0 fault
      (sym (told-are reading before.files known (Ok ends.0) (Err fault) told reads ends.1)))

  succeeds : (asked : Option Fault) (outcome : Outcome)
      → EndsOverAs reading makes begins output before after asked outcome
      → SucceedsOver reading asked before after outcome
  succeeds (Some fault) outcome ends known read told reads no_read no_write no_report =
      absurd (not-both read fault (told-are reading before.files known (Err fault)
      (Ok read) told reads ends.0))
  succeeds None Done ends known read told reads no_read no_write no_report = inl (refl, refl)
  succeeds None Memory ends known read told reads no_read no_write no_report = inr refl
  succeeds None ReadFault ends known read told reads no_read no_write no_report =
      absurd (no_read ends.0)
  succeeds None WriteFault ends known read told reads no_read no_write no_report =
      absurd (no_write ends.2.0)
  succeeds None ReportFault ends known read told reads no_read no_write no_report =
      absurd (no_report ends.2.0)
  succeeds None _ ends known read told reads no_read no_write no_report = absurd ends.2

  pub complete-over : (asked : Option Fault) (outcome : Outcome)
      → EndsOverAs reading makes begins output before after asked outcome
      → EndsOver reading makes begins output before after asked outcome
  complete-over asked outcome ends =
      record {
        ends = ends;
        faults_always = faults asked outcome ends;
        succeeds_always = succeeds asked outcome ends;
      }

  -- an end after reading speaks of no fault of an input
  pub reads-over : (read : Read) (outcome : Outcome) → InputsAre reading before.files (Ok read)
      → EndsAfterReading makes begins read output before after outcome
      → EndsOverAs reading makes begins output before after None outcome
  reads-over read Done is ends = (read, is, ends)
  reads-over read WriteFault is ends = (read, is, ends)
  reads-over read ReportFault is ends = (read, is, ends)
  reads-over read Memory is ends = inr (read, is, ends)
  reads-over read _ is ends = absurd ends
