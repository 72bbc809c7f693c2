-- From the value that is made of an input to the end of the command.
use Rattle.std.proofs.Common.{◌≡◌, ℕ, List, ◌++◌, Option, Some, None, Result, Ok, Err, refl, sym, ◌∙◌, ap, inl, inr, ◌⊎◌}
use Rattle.std.specs.List.{flat_map}
use Rattle.tex_shelf.specs.Files.{Files, file_at, stored, with_text}
use Rattle.tex_shelf.specs.Faults.{Rose}
use Rattle.tex_shelf.specs.declared.stop.ShelfStop.{ShelfStop}
use Rattle.tex_shelf.specs.declared.stop.ShelfStop.TheVariants.{Failed, NoMemory}
use Rattle.tex_shelf.proofs.FilesLemmas.{file_under-stored}
use Rattle.outcomes.specs.declared.outcome.Outcome.{Outcome}
use Rattle.outcomes.specs.declared.outcome.Outcome.TheVariants.{Done, ReadFault, WriteFault, ReportFault, Memory}
use Rattle.outcomes.specs.Outcomes.{write_outcome, report_outcome}
use Rattle.outcomes.specs.Causes.{InputIs, Stopped, IsPartlyStored, IsPartlyTold}
use Rattle.outcomes.specs.Scenes.{Scene}
use Rattle.outcomes.specs.Ends.{Making, Beginning, Stands, Writes, WritesPart, WritesNothing, WritesAndTells, WritesAndTellsPart, EndsAfterReading, EndsAs, FaultsAlways, SucceedsAlways, Ends}
use Rattle.outcomes.proofs.InputLaws.{told-is, one-fault, not-both}

-- ---- nothing but these causes keeps a command from Done

module _ {Read Fault : Type 0} (reading : List ℕ → Result Read Fault) (makes : Making Read)
    (begins : Beginning Read) (input output : List ℕ) (before after : Scene) where
  faults : (asked : Option Fault) (outcome : Outcome)
      → EndsAs reading makes begins input output before after asked outcome
      → (known : Files) (bytes : List ℕ) (fault : Fault) → before.files ≡ Some known
      → file_at known input ≡ Some bytes → reading bytes ≡ Err fault
      → (Rose before.read_faults after.read_faults → ⊥) → (asked ≡ Some fault) ⊎ (outcome ≡ Memory)
  faults (Some other) outcome ends known bytes fault told there reads quiet =
      inl (ap Some (one-fault {Read = Read} other fault
      (sym (told-is reading before.files known input bytes
      (Err other) told there ends.0) ∙ reads)))
  faults None ReadFault ends known bytes fault told there reads quiet = absurd (quiet ends.0)
  faults None Memory ends known bytes fault told there reads quiet = inr refl
  faults None _ ends known bytes fault told there reads quiet =
      absurd (not-both ends.0 fault
      (sym (told-is reading before.files known input bytes (Ok ends.0) told there ends.1)
      ∙ reads))

  succeeds : (asked : Option Fault) (outcome : Outcome)
      → EndsAs reading makes begins input output before after asked outcome
      → SucceedsAlways reading input before after outcome
  succeeds (Some fault) outcome ends known bytes read told there reads no_read no_write no_report =
      absurd (not-both read fault (sym reads ∙ told-is reading before.files known input bytes
      (Err fault) told there ends.0))
  succeeds None Done ends known bytes read told there reads no_read no_write no_report = inl refl
  succeeds None Memory ends known bytes read told there reads no_read no_write no_report = inr refl
  succeeds None ReadFault ends known bytes read told there reads no_read no_write no_report =
      absurd (no_read ends.0)
  succeeds None WriteFault ends known bytes read told there reads no_read no_write no_report =
      absurd (no_write ends.2.0)
  succeeds None ReportFault ends known bytes read told there reads no_read no_write no_report =
      absurd (no_report ends.2.0)
  succeeds None _ ends known bytes read told there reads no_read no_write no_report = absurd ends.2

  pub complete : (fault_of : Outcome → Option Fault) (outcome : Outcome)
      → EndsAs reading makes begins input output before after (fault_of outcome) outcome
      → Ends reading fault_of makes begins input output before after outcome
  complete fault_of outcome ends = record {
    ends = ends;
    faults_always = faults (fault_of outcome) outcome ends;
    succeeds_always = succeeds (fault_of outcome) outcome ends;
  }

-- ---- from the steps to the end

stands-stored : (before after : Option Files) (output file : List ℕ) → after
    ≡ stored before output file → Stands after output file
stands-stored None after output file stores = rw stores tt
stands-stored (Some known) after output file stores =
    rw stores (file_under-stored known output file)

module _ {Read : Type 0} (makes : Making Read) (begins : Beginning Read) (read : Read)
    (output file : List ℕ) (lines : List (List ℕ)) (before after : Scene)
    (made : makes read file lines) (fronts : (k : ℕ) → begins read k file) where
  writes-of : after.files ≡ stored before.files output file → after.target ≡ Some output
      → Writes makes read output before after
  writes-of files target = record {
    file = file;
    lines = lines;
    made = made;
    stands = stands-stored before.files after.files output file files;
    files = files;
    target = target;
  }

  pub end-done : after.files ≡ stored before.files output file → after.target ≡ Some output
      → after.written ≡ with_text before.written (flat_map (λ line. line) lines)
      → WritesAndTells makes read output before after
  unfolding writes-of
  end-done files target written = record { writes = writes-of files target; tells = written }

  pub end-told : (stop : ShelfStop) → after.files ≡ stored before.files output file → after.target
      ≡ Some output
      → Stopped before.report_faults after.report_faults
      (IsPartlyTold before.written after.written lines) stop
      → EndsAfterReading makes begins read output before after (report_outcome stop)
  unfolding writes-of
  end-told Failed files target tells =
      (tells.0, record { writes = writes-of files target; tells = tells.1 })
  end-told NoMemory files target tells =
      inr (inr (record { writes = writes-of files target; tells = tells }))

  part-of : IsPartlyStored before.files after.files output file → after.written ≡ before.written
      → WritesPart begins read output before after
  part-of (inl none) written = record {
    file = file;
    front = 0;
    begun = fronts 0;
    files = inl none;
    written = written;
  }
  part-of (inr some) written = record {
    file = file;
    front = some.0;
    begun = fronts some.0;
    files = inr some.2;
    written = written;
  }

  pub end-stored : (stop : ShelfStop) → after.written ≡ before.written
      → Stopped before.write_faults after.write_faults
      (IsPartlyStored before.files after.files output file) stop
      → EndsAfterReading makes begins read output before after (write_outcome stop)
  end-stored Failed written stores = (stores.0, part-of stores.1 written)
  end-stored NoMemory written stores = inr (inl (part-of stores written))

-- reading the input changed nothing but its count of faults
module _ {Read : Type 0} (makes : Making Read) (begins : Beginning Read) (read : Read)
    (output : List ℕ) (before after : Scene) (reads_now : ℕ) where
  abbrev middle : Scene
  middle = record before { read_faults = reads_now }

  writes-before : Writes makes read output middle after → Writes makes read output before after
  writes-before w = record {
    file = w.file;
    lines = w.lines;
    made = w.made;
    stands = w.stands;
    files = w.files;
    target = w.target;
  }

  part-before : WritesPart begins read output middle after
      → WritesPart begins read output before after
  part-before w = record {
    file = w.file;
    front = w.front;
    begun = w.begun;
    files = w.files;
    written = w.written;
  }

  told-before : WritesAndTellsPart makes read output middle after
      → WritesAndTellsPart makes read output before after
  unfolding writes-before
  told-before w = record { writes = writes-before w.writes; tells = w.tells }

  pub after-reading : (outcome : Outcome)
      → EndsAfterReading makes begins read output middle after outcome
      → EndsAfterReading makes begins read output before after outcome
  unfolding writes-before
  after-reading Done ends = record { writes = writes-before ends.writes; tells = ends.tells }
  after-reading WriteFault ends = (ends.0, part-before ends.1)
  after-reading ReportFault ends = (ends.0, told-before ends.1)
  after-reading Memory (inl nothing) =
      inl (record { files = nothing.files; target = nothing.target; written = nothing.written })
  after-reading Memory (inr (inl part)) = inr (inl (part-before part))
  after-reading Memory (inr (inr told)) = inr (inr (told-before told))
  after-reading _ ends = absurd ends

-- no end after reading speaks of a fault of the input
module _ {Read Fault : Type 0} (reading : List ℕ → Result Read Fault) (fault_of : Outcome
    → Option Fault) (done : fault_of Done ≡ None) (write : fault_of WriteFault ≡ None)
    (report : fault_of ReportFault ≡ None) (memory : fault_of Memory ≡ None) (makes : Making Read)
    (begins : Beginning Read) (read : Read) (input output : List ℕ) (before after : Scene) where
  pub reads-ends : (outcome : Outcome) → InputIs reading before.files input (Ok read)
      → EndsAfterReading makes begins read output before after outcome
      → EndsAs reading makes begins input output before after (fault_of outcome) outcome
  reads-ends Done is ends = rw done (read, is, ends)
  reads-ends WriteFault is ends = rw write (read, is, ends)
  reads-ends ReportFault is ends = rw report (read, is, ends)
  reads-ends Memory is ends = rw memory (inr (read, is, ends))
  reads-ends _ is ends = absurd ends

-- the end of a command after one thing is read, if the value made of it is made of another thing
pub ends-read_as : {A B : Type 0} (makes : Making A) (begins : Beginning A) (makes_b : Making B)
    (begins_b : Beginning B) (a : A) (b : B)
    (output : List ℕ) (before after : Scene) (outcome : Outcome)
    → ((file : List ℕ) (lines : List (List ℕ)) → makes a file lines → makes_b b file lines)
    → ((k : ℕ) (file : List ℕ) → begins a k file → begins_b b k file)
    → EndsAfterReading makes begins a output before after outcome
    → EndsAfterReading makes_b begins_b b output before after outcome
ends-read_as makes begins makes_b begins_b a b output before after outcome made begun ends =
    by-outcome outcome ends
  where
    writes : Writes makes a output before after → Writes makes_b b output before after
    writes w = record {
      file = w.file;
      lines = w.lines;
      made = made w.file w.lines w.made;
      stands = w.stands;
      files = w.files;
      target = w.target;
    }

    part : WritesPart begins a output before after → WritesPart begins_b b output before after
    part w = record {
      file = w.file;
      front = w.front;
      begun = begun w.front w.file w.begun;
      files = w.files;
      written = w.written;
    }

    by-outcome : (outcome : Outcome) → EndsAfterReading makes begins a output before after outcome
        → EndsAfterReading makes_b begins_b b output before after outcome
    by-outcome Done ends = record { writes = writes ends.writes; tells = ends.tells }
    by-outcome WriteFault ends = (ends.0, part ends.1)
    by-outcome ReportFault ends =
        (ends.0, record { writes = writes ends.1.writes; tells = ends.1.tells })
    by-outcome Memory (inl nothing) = inl nothing
    by-outcome Memory (inr (inl some)) = inr (inl (part some))
    by-outcome Memory (inr (inr told)) =
        inr (inr (record { writes = writes told.writes; tells = told.tells }))
    by-outcome _ ends = absurd ends
