-- The bytes taken from the start of an input.
use Rattle.std.specs.Prelude.{◌≡◌, ◌<◌, ◌≤◌, ℕ, List, length, Option}
use Rattle.tex_shelf.specs.Files.{with_front, emptied}

-- These n bytes were taken: fewer than requested only at the end of the input.
pub record IsTaken (wanted n : ℕ) (bytes : List ℕ) (left later : Option (List ℕ)) : Type 0 where
  pub count : length bytes ≡ n
  pub most : n ≤ wanted
  pub front : left ≡ with_front bytes later
  pub ended : n < wanted → later ≡ emptied later
