-- The result of gathering parts, step by step.
use Rattle.std.specs.Prelude.{◌≡◌, ◌≤◌, ⊤, ℕ, ◌+◌, List, [], ◌∷◌, length, map, drop, Option, None, Some, IfSome, Result, Ok, Err}
use Rattle.tex_shelf.specs.Files.{Files, file_at}
use Rattle.tex_shelf.specs.Faults.{Rose}
use Rattle.tex_shelf.specs.declared.stop.Stop.{Stop}
use Rattle.tex_shelf.specs.declared.stop.Stop.TheVariants.{Fault, ReadFault, NoMemory}
use Rattle.texture.specs.Shapes.{IsValid}
use Rattle.part_file.specs.declared.fault.PartFault.{PartFault}
use Rattle.part_file.specs.Pieces.{block_of, error_of}
use Rattle.part_file.specs.Files.{PartFile, part_of}
use Rattle.outcomes.specs.ManyEnds.{InputsAre}
use Rattle.parting.specs.Numbered.{EachFrom}
use Rattle.parting.specs.Joins.{Gathered, IsPartAt, AreParts, gathered_from, complete_from, parts_in}
use Rattle.parting.specs.declared.fault.JoinFault.{JoinFault}
use Rattle.parting.specs.declared.fault.JoinFault.TheVariants.{NoPart}
use Rattle.parting.specs.declared.gathering.GatheredParts.{GatheredParts}

-- what the code has gathered
abbrev pub seen : GatheredParts → Gathered
seen parts = record { shape = parts.layout; mark = parts.mark; slots = parts.slots.items }

-- a part, or why the file of a word is none
abbrev pub in_word : ℕ → Result PartFile PartFault → Result PartFile JoinFault
in_word word (Ok part) = Ok part
in_word word (Err fault) = Err (NoPart word fault)

-- the part that the bytes of the file of a word are
unfoldable pub part_at : ℕ → List ℕ → Result PartFile JoinFault
part_at word bytes = in_word word (part_of bytes)

-- each slot that is not empty has a part of this shape with this mark, which is at its place among
-- as many as there are slots
pub record AreSlots (gathered : Gathered) : Type 0 where
  pub valid : IsValid gathered.shape
  pub some : 1 ≤ length gathered.slots
  pub each : EachFrom (λ place slot.
      IfSome slot (IsPartAt gathered.shape gathered.mark (length gathered.slots) place)) 0
      gathered.slots

-- the parts in the slots that are not empty
abbrev pub parts_of : List (Option PartFile) → List PartFile
parts_of [] = []
parts_of (None ∷ slots) = parts_of slots
parts_of (Some part ∷ slots) = part ∷ parts_of slots

-- the blocks of the part in a slot, and their errors
abbrev pub slot_blocks : Option PartFile → List (List ℕ)
slot_blocks None = []
slot_blocks (Some part) = map block_of part.pieces

abbrev pub slot_errors : Option PartFile → List ℕ
slot_errors None = []
slot_errors (Some part) = map error_of part.pieces

-- a change gave this, or refused with its fault
abbrev pub Changes : Result Gathered JoinFault → Gathered → Result (Unit {0}) JoinFault → Type 0
Changes wanted now (Ok done) = wanted ≡ Ok now
Changes wanted now (Err fault) = wanted ≡ Err fault

-- if the files are known: the parts of the first k names, and those of the others, are the parts of
-- all of them
abbrev pub AreGathered : List (List ℕ) → Option Files → ℕ → Gathered → Type 0
AreGathered names None k gathered = ⊤
AreGathered names (Some files) k gathered = parts_in names files ≡ gathered_from (k + 2) gathered
    (map (file_at files) (drop k names))

-- the result of gathering up to the first k names, with the count of faults before and after
abbrev pub GathersTo : List (List ℕ) → Option Files → ℕ → ℕ → ℕ
    → Result GatheredParts (Stop JoinFault) → Type 0
GathersTo names files k before now (Ok parts) = AreGathered names files k (seen parts)
GathersTo names files k before now (Err (Fault fault)) = InputsAre (parts_in names) files
    (Err fault)
GathersTo names files k before now (Err ReadFault) = Rose before now
GathersTo names files k before now (Err NoMemory) = ⊤

-- the result of gathering in place
abbrev pub Steps : List (List ℕ) → Option Files → ℕ → ℕ → ℕ → Gathered
    → Result (Unit {0}) (Stop JoinFault) → Type 0
Steps names files k before now gathered (Ok done) = AreGathered names files k gathered
Steps names files k before now gathered (Err (Fault fault)) = InputsAre (parts_in names) files
    (Err fault)
Steps names files k before now gathered (Err ReadFault) = Rose before now
Steps names files k before now gathered (Err NoMemory) = ⊤

-- every slot has its part, or the first that is empty is named
abbrev pub CompletesAs : List (Option PartFile) → Result (Unit {0}) JoinFault → Type 0
CompletesAs slots (Ok done) = complete_from 0 slots ≡ Ok (parts_of slots)
CompletesAs slots (Err fault) = complete_from 0 slots ≡ Err fault

-- what files are as parts of one texture, with the count of faults before and now
abbrev pub Completes : List (List ℕ) → Option Files → ℕ → ℕ → Result GatheredParts (Stop JoinFault)
    → Type 0
Completes names files before now (Ok parts) =
    InputsAre (parts_in names) files (Ok (parts_of parts.slots.items))
    × AreParts parts.layout parts.mark (parts_of parts.slots.items)
Completes names files before now (Err (Fault fault)) = InputsAre (parts_in names) files (Err fault)
Completes names files before now (Err ReadFault) = Rose before now
Completes names files before now (Err NoMemory) = ⊤
