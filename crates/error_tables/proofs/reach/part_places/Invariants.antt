use Rattle.std.proofs.Common.{◌≤◌, length}
use Rattle.error_tables.specs.Reached.{IsPartReachBelow}
use Rattle.error_tables.proofs.reach.part_places.Given as goal

abbrev pub invariant-loop-p : goal.invariant-loop-p
invariant-loop-p g l = record {
  reach : IsPartReachBelow g.row.W g.row.H l.block l.part l.places l.p l.reach.items;
  few_reached : length l.reach.items ≤ l.p;
}
