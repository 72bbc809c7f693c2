use Rattle.weight_infill.specs.Surrounded.{AreAround}
use Rattle.weight_infill.proofs.surroundings.Surroundings.of.Given as goal

abbrev pub invariant-loop-p : goal.invariant-loop-p
invariant-loop-p g l = AreAround g.row.W g.row.H l.n l.m l.p l.around
