use Rattle.std.proofs.Common.{IsSome}
use Rattle.watched_tests.proofs.shelf_tests.put_pieces.Given as goal

abbrev pub invariant-loop-piece : goal.invariant-loop-piece
invariant-loop-piece g l = IsSome (g.S.Shelf.target l.shelf)
