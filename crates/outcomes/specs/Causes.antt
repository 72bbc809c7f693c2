-- When each part of a command ends in which way.
use Rattle.std.specs.Prelude.{◌≡◌, ◌≤◌, ⊤, ℕ, List, length, take, Option, Some, None, Result, Ok, Err, ◌⊎◌}
use Rattle.std.specs.List.{flat_map}
use Rattle.std.specs.Borrow.{Bor}
use Rattle.tex_shelf.specs.Files.{Files, file_at, with_more, stored, with_text}
use Rattle.tex_shelf.specs.Faults.{Rose}
use Rattle.tex_shelf.specs.declared.stop.ShelfStop.{ShelfStop}
use Rattle.tex_shelf.specs.declared.stop.ShelfStop.TheVariants.{Failed, NoMemory}
use Rattle.tex_shelf.specs.declared.stop.Stop.{Stop}
use Rattle.tex_shelf.specs.declared.stop.Stop.TheVariants.{Fault, ReadFault, NoMemory as NoReaderMemory}

-- if the files are known: there is a file with this name, and this is the value of its bytes
abbrev pub InputIs : {A : Type 0} → (List ℕ → A) → Option Files → List ℕ → A → Type 0
InputIs reading None name read = ⊤
InputIs reading (Some files) name read = (bytes : List ℕ) × (file_at files name ≡ Some bytes)
    × (reading bytes ≡ read)

-- the result of opening a file and reading it, with the count of faults before and after
abbrev pub Loads : {A F : Type 0} → (List ℕ → Result A F) → Option Files → List ℕ → ℕ → ℕ
    → Result A (Stop F) → Type 0
Loads reading files name before now (Ok read) = InputIs reading files name (Ok read)
Loads reading files name before now (Err (Fault fault)) = InputIs reading files name (Err fault)
Loads reading files name before now (Err ReadFault) = Rose before now
Loads reading files name before now (Err NoReaderMemory) = ⊤

-- the target has the first k of these bytes more
abbrev pub IsPartlyPut : Option Files → Option (List ℕ) → List ℕ → Option Files → Type 0
IsPartlyPut before target bytes now = (k : ℕ) × (k ≤ length bytes)
    × (now ≡ with_more before target (take k bytes))

-- the files are as before, or have a new file of this name with the first k of these bytes
abbrev pub IsPartlyStored : Option Files → Option Files → List ℕ → List ℕ → Type 0
IsPartlyStored before now name bytes = (now ≡ before)
    ⊎ ((k : ℕ) × (k ≤ length bytes) × (now ≡ stored before name (take k bytes)))

-- a call stopped with this done in part: it failed, or memory ran out
abbrev pub Stopped : ℕ → ℕ → Type 0 → ShelfStop → Type 0
Stopped before now Part Failed = Rose before now × Part
Stopped before now Part NoMemory = Part

-- the result of putting these bytes, with the count of faults before and after
abbrev pub Puts : {X : Type 0} → Option Files → Option (List ℕ) → Option Files → List ℕ → ℕ → ℕ
    → Result X ShelfStop → Type 0
Puts files target after bytes before now (Ok done) = after ≡ with_more files target bytes
Puts files target after bytes before now (Err stop) =
    Stopped before now (IsPartlyPut files target bytes after) stop

-- pieces, one after another
abbrev pub joined : List (Bor (List ℕ)) → List ℕ
joined pieces = flat_map (λ piece. piece.now) pieces

-- the result of writing these bytes as a new file, with the count of faults before and after
abbrev pub Stores : {X : Type 0} → Option Files → Option Files → List ℕ → List ℕ → ℕ → ℕ
    → Result X ShelfStop → Type 0
Stores files after name bytes before now (Ok done) = after ≡ stored files name bytes
Stores files after name bytes before now (Err stop) =
    Stopped before now (IsPartlyStored files after name bytes) stop

-- the lines of a text
abbrev pub text_of : List (List ℕ) → List ℕ
text_of lines = flat_map (λ line. line) lines

-- the first lines of the report were written
abbrev pub IsPartlyTold : Option (List ℕ) → Option (List ℕ) → List (List ℕ) → Type 0
IsPartlyTold written after lines = (k : ℕ) × (after ≡ with_text written (text_of (take k lines)))

-- the result of reporting these lines, with the count of faults before and after
abbrev pub Tells : {X : Type 0} → Option (List ℕ) → Option (List ℕ) → List (List ℕ) → ℕ → ℕ
    → Result X ShelfStop → Type 0
Tells written after lines before now (Ok done) = after ≡ with_text written (text_of lines)
Tells written after lines before now (Err stop) =
    Stopped before now (IsPartlyTold written after lines) stop
