use Rattle.std.proofs.Common.{◌≡◌, ◌≤◌, ◌*◌}
use Rattle.astc_model.specs.Shapes.{colour_count}
use Rattle.error_tables.proofs.colours.part_with.Given as goal

abbrev pub invariant-loop-part : goal.invariant-loop-part
invariant-loop-part l = record {
  from_is : l.from ≡ colour_count l.part l.cems;
  passed : l.from ≤ l.i;
  small : l.from ≤ 128 * l.part;
}
