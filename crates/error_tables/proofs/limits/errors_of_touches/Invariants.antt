use Rattle.std.proofs.Common.{◌≡◌, ◌*◌, ◌≤◌, take, get_or}
use Rattle.std.specs.Prelude.{sum_by}
use Rattle.error_tables.proofs.limits.errors_of_touches.Given as goal

abbrev pub invariant-loop-touch : goal.invariant-loop-touch
invariant-loop-touch l = record {
  less : l.less ≡ sum_by (λ touch. get_or l.tables.errors touch.0 0) (take l.touch-index l.reach);
  few : l.less ≤ 3901500 * l.touch-index;
}
