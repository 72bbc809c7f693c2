-- The report of an import or an export: one line.
use Rattle.std.specs.Prelude.{ℕ, List, [], ◌∷◌, ◌++◌, codes}
use Rattle.std.specs.Fmt.{decimal}

-- `blocks N`
abbrev pub blocks_line : ℕ → List ℕ
blocks_line blocks = codes "blocks " ++ (decimal blocks ++ 10 ∷ [])
