-- The commands, and which names they read and write.
use Rattle.std.specs.Prelude.{⊤, ℕ, Bool, true, false, if◌then◌else◌, IsTrue, List, ◌∷◌, map, Option, Some, None, codes, string_bytes}
use Rattle.std.specs.Str.{bytes_eq}
use Rattle.std.specs.declared.string.String.{String}
use Rattle.std.specs.declared.alloc.Global.{Global}
use Rattle.astc_words.specs.declared.command.Command.{Command}
use Rattle.astc_words.specs.declared.command.Command.TheVariants.{Pack, Unpack, Audit, Trial, Import, Export, PackKtx}

-- the words as bytes
abbrev pub texts : List (String Global) → List (List ℕ)
texts words = map string_bytes words

-- the command that a word names, of the three that are looked for last
abbrev pub other_command : List ℕ → Option Command
other_command word =
    if bytes_eq word (codes "import") then Some Import
    else (if bytes_eq word (codes "export") then Some Export
    else (if bytes_eq word (codes "packktx") then Some PackKtx
    else None))

-- the command that a word names
abbrev pub command_of : List ℕ → Option Command
command_of word =
    if bytes_eq word (codes "pack") then Some Pack
    else (if bytes_eq word (codes "unpack") then Some Unpack
    else (if bytes_eq word (codes "audit") then Some Audit
    else (if bytes_eq word (codes "trial") then Some Trial
    else other_command word)))

-- the commands that read the file of word 1: all but a trial
abbrev pub reads_first : Option Command → Bool
reads_first None = false
reads_first (Some Trial) = false
reads_first (Some command) = true

-- the commands that read the file of word 2
abbrev pub reads_second : Option Command → Bool
reads_second (Some Audit) = true
reads_second command = false

-- the commands that write the file of word 2: all but an audit and a trial
abbrev pub writes_second : Option Command → Bool
writes_second None = false
writes_second (Some Audit) = false
writes_second (Some Trial) = false
writes_second (Some command) = true

-- if the command reads word 1 and the word exists, that name may be opened
abbrev pub OpensFirst : (List ℕ → Type 0) → List (List ℕ) → Type 0
OpensFirst can_open (command ∷ first ∷ words) = IsTrue (reads_first (command_of command))
    → can_open first
OpensFirst can_open words = ⊤

-- if the command reads word 2 and the word exists, that name may be opened
abbrev pub OpensSecond : (List ℕ → Type 0) → List (List ℕ) → Type 0
OpensSecond can_open (command ∷ first ∷ second ∷ words) = IsTrue (reads_second (command_of command))
    → can_open second
OpensSecond can_open words = ⊤

-- if the command writes word 2 and the word exists, that name may be created
abbrev pub CreatesSecond : (List ℕ → Type 0) → List (List ℕ) → Type 0
CreatesSecond can_create (command ∷ first ∷ second ∷ words) =
    IsTrue (writes_second (command_of command)) → can_create second
CreatesSecond can_create words = ⊤
