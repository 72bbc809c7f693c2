-- Lists whose elements are numbered.
use Rattle.std.specs.Prelude.{⊤, ℕ, ◌+◌, List, [], ◌∷◌}

-- this is so of each element with its number, from this one on
abbrev pub EachFrom : {A : Type 0} → (ℕ → A → Type 0) → ℕ → List A → Type 0
EachFrom P number [] = ⊤
EachFrom P number (x ∷ xs) = P number x × EachFrom P (number + 1) xs
