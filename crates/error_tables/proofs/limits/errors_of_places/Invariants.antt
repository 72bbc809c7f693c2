use Rattle.std.proofs.Common.{◌≡◌, ◌*◌, ◌≤◌, take, get_or}
use Rattle.std.specs.Prelude.{sum_by}
use Rattle.error_tables.proofs.limits.errors_of_places.Given as goal

abbrev pub invariant-loop-p : goal.invariant-loop-p
invariant-loop-p l = record {
  less : l.less ≡ sum_by (λ p. get_or l.tables.errors p 0) (take l.p-index l.reach);
  few : l.less ≤ 3901500 * l.p-index;
}
