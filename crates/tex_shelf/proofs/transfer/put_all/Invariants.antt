use Rattle.std.proofs.Common.{◌≡◌, ◌-◌, ◌≤◌, ℕ, List, length, take}
use Rattle.tex_shelf.specs.Files.{with_more}
use Rattle.tex_shelf.proofs.transfer.put_all.Given as goal

abbrev pub invariant-loop-done : goal.invariant-loop-done
invariant-loop-done g l = record {
  within : l.done ≤ length l.piece;
  files : g.S.Shelf.files l.shelf ≡ with_more (g.S.Shelf.files l.fn.shelf)
      (g.S.Shelf.target l.fn.shelf) (take l.done l.piece);
  left : g.S.Shelf.left l.shelf ≡ g.S.Shelf.left l.fn.shelf;
  target : g.S.Shelf.target l.shelf ≡ g.S.Shelf.target l.fn.shelf;
  later : g.S.Shelf.write_faults l.fn.shelf ≤ g.S.Shelf.write_faults l.shelf;
  other : g.S.Shelf.read_faults l.shelf ≡ g.S.Shelf.read_faults l.fn.shelf;
  can_open : (n : List ℕ) → g.S.Shelf.can_open l.fn.shelf n → g.S.Shelf.can_open l.shelf n;
  can_create : (n : List ℕ) → g.S.Shelf.can_create l.fn.shelf n → g.S.Shelf.can_create l.shelf n;
}

abbrev pub decreases-loop-done : goal.decreases-loop-done
decreases-loop-done g l = length l.piece - l.done
