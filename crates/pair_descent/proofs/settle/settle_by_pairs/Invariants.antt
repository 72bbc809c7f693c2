use Rattle.std.proofs.Common.{◌≤◌}
use Rattle.pair_descent.specs.Pairs.{StaysSettled}
use Rattle.pair_descent.proofs.settle.settle_by_pairs.Given as goal

abbrev pub invariant-rounds : goal.invariant-rounds
invariant-rounds g l = record {
  kept : StaysSettled g.row.W g.row.H l.goal l.initial.best l.best;
  rises : l.initial.steps ≤ l.steps;
}

abbrev pub decreases-rounds : goal.decreases-rounds
decreases-rounds g l = l.best.error
