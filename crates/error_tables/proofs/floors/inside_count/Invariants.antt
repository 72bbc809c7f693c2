use Rattle.std.proofs.Common.{◌≡◌, ◌≤◌, take}
use Rattle.std.specs.Prelude.{sum_by}
use Rattle.error_tables.specs.Floors.{inside_at}
use Rattle.error_tables.proofs.floors.inside_count.Given as goal

abbrev pub invariant-loop-p : goal.invariant-loop-p
invariant-loop-p l = record {
  count : l.count ≡ sum_by (inside_at l.places) (take l.p-index l.reach);
  few : l.count ≤ l.p-index;
}
