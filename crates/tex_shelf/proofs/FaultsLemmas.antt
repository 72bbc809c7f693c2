-- Counts of faults over several calls.
use Rattle.std.proofs.Common.{ℕ, ◌≤◌, inl, inr, sym, ◌∙◌, arith}
use Rattle.std.proofs.Math.Nat.{eq-or-lt_of_le}
use Rattle.tex_shelf.specs.Faults.{Rose}

-- a count that rose in the last call rose since the first
pub rose_since : (before mid now : ℕ) → before ≤ mid → Rose mid now → Rose before now
rose_since before mid now later (inl rose) = inl (omega arith)
rose_since before mid now later (inr stood) =
    elim (eq-or-lt_of_le later) [
      | inl same ↦ inr (same ∙ stood.0, stood.1)
      | inr less ↦ inl (omega arith)
    ]

-- and is still risen after further calls
pub rose_until : (before mid now : ℕ) → Rose before mid → mid ≤ now → Rose before now
rose_until before mid now (inl rose) later = inl (omega arith)
rose_until before mid now (inr stood) later =
    elim (eq-or-lt_of_le later) [
      | inl same ↦ inr (stood.0, sym same ∙ stood.1)
      | inr less ↦ inl (omega arith)
    ]
