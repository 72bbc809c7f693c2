-- Counts of faults, and the answers that they account for.
use Rattle.std.specs.Prelude.{◌≡◌, ◌<◌, ◌≤◌, ◌⊎◌, ◌+◌, ◌-◌, ◌^◌, ℕ, min, Result, IsErrOf}
use Rattle.tex_shelf.specs.declared.stop.ShelfStop.{ShelfStop}
use Rattle.tex_shelf.specs.declared.stop.ShelfStop.TheVariants.{Failed, NoMemory}

-- one more, in 64 bits: a count stays at its greatest value
abbrev pub raised : ℕ → ℕ
raised count = min (count + 1) (2 ^ 64 - 1)

-- the count rose, or was the greatest value of 64 bits and stays there
abbrev pub Rose : ℕ → ℕ → Type 0
Rose before now = (before < now) ⊎ ((before ≡ 2 ^ 64 - 1) × (now ≡ 2 ^ 64 - 1))

-- The effect of a call on its count of faults. `Failed` is a result only if the count rose.
pub record Causes {T : Type 0} (before now : ℕ) (result : Result T ShelfStop) : Type 0 where
  pub never_falls : before ≤ now
  pub failed : IsErrOf result Failed → Rose before now
  pub no_memory : IsErrOf result NoMemory → now ≡ before

-- The effect on an object with two counts: the call keeps the other count.
pub record Counts {T : Type 0} (before now other_before other_now : ℕ)
    (result : Result T ShelfStop) : Type 0 where
  pub never_falls : before ≤ now
  pub other : other_now ≡ other_before
  pub failed : IsErrOf result Failed → Rose before now
  pub no_memory : IsErrOf result NoMemory → now ≡ before
