use Rattle.std.proofs.Common.{◌≤◌, length}
use Rattle.tex_shelf.proofs.edge.print_whole.Given as goal

abbrev pub invariant-loop : goal.invariant-loop
invariant-loop g l = l.done ≤ length l.piece
