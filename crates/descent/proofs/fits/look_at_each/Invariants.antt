use Rattle.std.proofs.Common.{◌≡◌, ◌≤◌, None}
use Rattle.listed_walk.specs.Looks.{IsSoundBest}
use Rattle.descent.proofs.fits.look_at_each.Given as goal

abbrev pub invariant-loop-found : goal.invariant-loop-found
invariant-loop-found g l = record {
  sound : IsSoundBest g.row.W g.row.H l.goal l.best;
  lower : l.best.error ≤ l.initial.best.error;
  none_yet : l.best.block ≡ None → l.best ≡ l.initial.best;
  rises : l.initial.steps ≤ l.steps;
}
