-- The state that a call leaves unchanged on the shelf that it is given.
use Rattle.std.specs.Prelude.{◌≡◌, ◌≤◌, ℕ, List, IsSome}
use Rattle.tex_shelf.specs.declared.shelf.Shelf.{Ghosts as ShelfMeanings}

-- no count falls, each name that might be opened or created still may, and what had a target has
-- one
pub record TakesNothing {S : Type 0} (means : ShelfMeanings S) (old new : S) : Type 0 where
  pub read_faults : means.read_faults old ≤ means.read_faults new
  pub write_faults : means.write_faults old ≤ means.write_faults new
  pub can_open : (name : List ℕ) → means.can_open old name → means.can_open new name
  pub can_create : (name : List ℕ) → means.can_create old name → means.can_create new name
  pub can_put : IsSome (means.target old) → IsSome (means.target new)

-- nothing but the input was opened or taken from
pub record OnlyReads {S : Type 0} (means : ShelfMeanings S) (old new : S) : Type 0 where
  pub files : means.files new ≡ means.files old
  pub target : means.target new ≡ means.target old
  pub read_faults : means.read_faults old ≤ means.read_faults new
  pub write_faults : means.write_faults new ≡ means.write_faults old
  pub can_open : (name : List ℕ) → means.can_open old name → means.can_open new name
  pub can_create : (name : List ℕ) → means.can_create old name → means.can_create new name

-- nothing but the output was created or written to
pub record OnlyWrites {S : Type 0} (means : ShelfMeanings S) (old new : S) : Type 0 where
  pub read_faults : means.read_faults new ≡ means.read_faults old
  pub write_faults : means.write_faults old ≤ means.write_faults new
  pub can_open : (name : List ℕ) → means.can_open old name → means.can_open new name
  pub can_create : (name : List ℕ) → means.can_create old name → means.can_create new name
  pub can_put : IsSome (means.target old) → IsSome (means.target new)
