-- Laws of the log of files and the target before it.
use Rattle.std.proofs.Common.{◌≡◌, ◌≢◌, ℕ, List, ◌∷◌, ◌++◌, Option, Some, false, IsTrue, ◌↔◌, true≢false, sym, ◌∙◌, ap, string_bytes}
use Rattle.std.specs.FinMap.{insert}
use Rattle.tex_shelf.specs.declared.folder.Entry.{Entry}
use Rattle.tex_shelf.specs.Files.{file_at, appended}
use Rattle.tex_shelf.specs.Log.{filed, kept, target_name}
use Rattle.tex_shelf.proofs.FilesLemmas.{file_at-insert_same, file_at-insert_other, insert-insert, insert_comm, appended-insert}

-- what a test that failed refutes
pub refuted : {P : Type 0} → IsTrue false ↔ P → P → ⊥
refuted test holds = true≢false (sym (test.1 holds))

-- a name's first entry counts
pub file_at-first : (log : List Entry) (entry : Entry) (name : List ℕ) → name
    ≡ string_bytes entry.name → file_at (filed (entry ∷ log)) name ≡ Some entry.bytes.items
file_at-first log entry name is = ap (file_at (filed (entry ∷ log))) is
    ∙ file_at-insert_same (filed log) (string_bytes entry.name) entry.bytes.items

-- an entry of another name does not
pub file_at-later : (log : List Entry) (entry : Entry) (name : List ℕ)
    → name ≢ string_bytes entry.name → file_at (filed (entry ∷ log)) name ≡ file_at (filed log) name
file_at-later log entry name apart = file_at-insert_other (filed log)
    (string_bytes entry.name) entry.bytes.items name apart

-- the target counts before the log
pub file_at-target : (target : Option Entry) (log : List Entry) (entry : Entry) (name : List ℕ)
    → target ≡ Some entry → name ≡ string_bytes entry.name
    → file_at (kept target log) name ≡ Some entry.bytes.items
file_at-target target log entry name is same = ap (λ t. file_at (kept t log) name) is
    ∙ file_at-first log entry name same

-- beside a target of another name
pub file_at-log : (target : Option Entry) (log : List Entry) (entry : Entry) (name : List ℕ)
    → target ≡ Some entry → name ≢ string_bytes entry.name
    → file_at (kept target log) name ≡ file_at (filed log) name
file_at-log target log entry name is apart = ap (λ t. file_at (kept t log) name) is
    ∙ file_at-later log entry name apart

-- a file in the place of the target of its name
pub set_as_target : (target : Option Entry) (log : List Entry) (current entry : Entry) → target
    ≡ Some current → string_bytes entry.name ≡ string_bytes current.name
    → filed (entry ∷ log) ≡ insert (kept target log) (string_bytes entry.name) entry.bytes.items
set_as_target target log current entry is same =
    let bytes = entry.bytes.items in
    sym (insert-insert (filed log) (string_bytes entry.name) current.bytes.items bytes)
    ∙ ap (λ name. insert (insert (filed log) name current.bytes.items)
    (string_bytes entry.name) bytes) same
    ∙ ap (λ t. insert (kept t log) (string_bytes entry.name) bytes) (sym is)

-- a file in the log, beside a target of another name
pub set_in_log : (target : Option Entry) (log : List Entry) (current entry : Entry) → target
    ≡ Some current → string_bytes entry.name ≢ string_bytes current.name
    → kept target (entry ∷ log)
    ≡ insert (kept target log) (string_bytes entry.name) entry.bytes.items
set_in_log target log current entry is apart =
    ap (λ t. kept t (entry ∷ log)) is
    ∙ insert_comm (filed log) (string_bytes entry.name) entry.bytes.items
    (string_bytes current.name) current.bytes.items apart
    ∙ ap (λ t. insert (kept t log) (string_bytes entry.name) entry.bytes.items) (sym is)

-- more bytes for the target
pub extended_target : (target : Option Entry) (log : List Entry) (entry : Entry)
    (bytes more : List ℕ) → target ≡ Some entry → bytes ≡ entry.bytes.items ++ more
    → insert (filed log) (string_bytes entry.name) bytes
    ≡ appended (kept target log) (target_name target) more
extended_target target log entry bytes more is grows =
    ap (insert (filed log) (string_bytes entry.name)) grows
    ∙ sym (appended-insert (filed log) (string_bytes entry.name) entry.bytes.items more)
    ∙ ap (λ t. appended (kept t log) (target_name t) more) (sym is)
