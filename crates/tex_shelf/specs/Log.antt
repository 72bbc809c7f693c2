-- The meaning of the entries of a folder in memory.
use Rattle.std.specs.Prelude.{ℕ, List, [], ◌∷◌, Option, Some, None, string_bytes}
use Rattle.std.specs.FinMap.{empty, insert}
use Rattle.tex_shelf.specs.declared.folder.Entry.{Entry}
use Rattle.tex_shelf.specs.Files.{Files}

-- the files of a log, the newest first: of the entries of one name, the first counts
abbrev pub filed : List Entry → Files
filed [] = empty
filed (entry ∷ older) = insert (filed older) (string_bytes entry.name) entry.bytes.items

-- the same, with the target before the log
abbrev pub kept : Option Entry → List Entry → Files
kept None log = filed log
kept (Some entry) log = filed (entry ∷ log)

-- the target's name
abbrev pub target_name : Option Entry → Option (List ℕ)
target_name None = None
target_name (Some entry) = Some (string_bytes entry.name)
