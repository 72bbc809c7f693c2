use Rattle.std.proofs.Common.{◌≡◌, ◌-◌, ◌*◌, ◌≤◌, ◌++◌, ℕ, List, length}
use Rattle.tex_shelf.specs.Frames.{OnlyReads}
use Rattle.tex_shelf.specs.Pieces.{pieces_at}
use Rattle.tex_shelf.proofs.TakingLemmas.{IsFront}
use Rattle.tex_shelf.proofs.pieces.take_pieces.Given as goal

abbrev pub invariant-loop-done : goal.invariant-loop-done
invariant-loop-done g l = record {
  within : l.done ≤ l.count;
  wide : length l.buffer ≡ 8192;
  taken : (bytes : List ℕ) × IsFront (g.row.N * l.done) bytes (g.S.Shelf.left l.fn.shelf)
      (g.S.Shelf.left l.shelf)
      × (l.pieces.items ≡ l.fn.pieces.items ++ pieces_at g.row.N l.done bytes);
  rest : OnlyReads g.S.Shelf l.fn.shelf l.shelf;
}

abbrev pub decreases-loop-done : goal.decreases-loop-done
decreases-loop-done g l = l.count - l.done
