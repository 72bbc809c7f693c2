use Rattle.std.proofs.Common.{◌≡◌, ◌-◌, ◌≤◌, ℕ, List, length}
use Rattle.tex_shelf.specs.Frames.{OnlyReads}
use Rattle.tex_shelf.proofs.TakingLemmas.{IsFront}
use Rattle.tex_shelf.proofs.pieces.skip.Given as goal

abbrev pub invariant-loop-done : goal.invariant-loop-done
invariant-loop-done g l = record {
  within : l.done ≤ l.wanted;
  wide : length l.piece ≡ 8192;
  taken : (bytes : List ℕ) × IsFront l.done bytes (g.S.Shelf.left l.fn.shelf)
      (g.S.Shelf.left l.shelf);
  rest : OnlyReads g.S.Shelf l.fn.shelf l.shelf;
}

abbrev pub decreases-loop-done : goal.decreases-loop-done
decreases-loop-done g l = l.wanted - l.done
