use Rattle.std.proofs.Common.{◌≡◌, ◌≤◌, ◌*◌, length}
use Rattle.weight_infill.specs.Touched.{touched_below}
use Rattle.weight_infill.proofs.touching.touched.Given as goal

abbrev pub invariant-loop-y : goal.invariant-loop-y
invariant-loop-y g l = record {
  rows : l.touched.items ≡ touched_below g.row.W g.row.H l.n l.m l.point (l.y * g.row.W);
  few : length l.touched.items ≤ l.y * g.row.W;
}
