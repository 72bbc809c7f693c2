-- How many things lack a property.
use Rattle.std.specs.Prelude.{◌≡◌, ℕ, zero, suc, ◌+◌, ◌⊎◌}

-- 1 exactly if the statement is false
abbrev pub CountsOne : Type 0 → ℕ → Type 0
CountsOne Property n = (Property × (n ≡ 0)) ⊎ ((Property → ⊥) × (n ≡ 1))

-- the number of the first k without the property
abbrev pub CountsOthers : (ℕ → Type 0) → ℕ → ℕ → Type 0
CountsOthers Property zero n = n ≡ 0
CountsOthers Property (suc k) n = (before : ℕ) × (last : ℕ) × CountsOthers Property k before
    × CountsOne (Property k) last × (n ≡ before + last)
