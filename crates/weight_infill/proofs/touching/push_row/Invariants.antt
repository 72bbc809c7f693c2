use Rattle.std.proofs.Common.{◌≡◌, ◌≤◌, ◌+◌, ◌++◌, length}
use Rattle.weight_infill.specs.Touched.{row_touched}
use Rattle.weight_infill.proofs.touching.push_row.Given as goal

abbrev pub invariant-loop-x : goal.invariant-loop-x
invariant-loop-x g l = record {
  row : l.touched.items ≡ l.initial.touched.items ++ row_touched l.across l.down l.y l.x;
  few : length l.touched.items ≤ length l.initial.touched.items + l.x;
}
