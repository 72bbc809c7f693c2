use Rattle.std.proofs.Common.{◌≡◌, ◌≤◌, ◌-◌, ◌++◌, ℕ, List}
use Rattle.std.specs.Prelude.{is_some}
use Rattle.tex_shelf.specs.Frames.{OnlyReads}
use Rattle.tex_shelf.proofs.TakingLemmas.{IsFront}
use Rattle.tex_shelf.proofs.growing.take_growing.Given as goal

abbrev pub invariant-loop-done : goal.invariant-loop-done
invariant-loop-done g l = record {
  within : l.done ≤ l.wanted;
  taken : (these : List ℕ) × IsFront l.done these (g.S.Shelf.left l.fn.shelf)
      (g.S.Shelf.left l.shelf) × (l.bytes.items ≡ l.fn.bytes.items ++ these);
  told : is_some (g.S.Shelf.left l.shelf) ≡ is_some (g.S.Shelf.left l.fn.shelf);
  rest : OnlyReads g.S.Shelf l.fn.shelf l.shelf;
}

abbrev pub decreases-loop-done : goal.decreases-loop-done
decreases-loop-done g l = l.wanted - l.done
