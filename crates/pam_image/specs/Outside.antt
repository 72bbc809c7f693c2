-- The bytes that reading takes from an input, and the state that it leaves on a shelf.
use Rattle.std.specs.Prelude.{◌≡◌, is_some, Result, IsErrOf}
use Rattle.tex_shelf.specs.Faults.{Rose}
use Rattle.tex_shelf.specs.Frames.{OnlyReads}
use Rattle.tex_shelf.specs.declared.shelf.Shelf.{Ghosts as ShelfMeanings}

-- All is as before except the rest of the input, which stays known or unknown, and the count of
-- failed reads, which rose if the result is a failed read.
pub record OnlyTakes {S T E : Type 0} (means : ShelfMeanings S) (old new : S) (failed : E)
    (result : Result T E) : Type 0 where
  pub told : is_some (means.left new) ≡ is_some (means.left old)
  pub rest : OnlyReads means old new
  pub read_fault : IsErrOf result failed → Rose (means.read_faults old) (means.read_faults new)
