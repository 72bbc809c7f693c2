use Rattle.std.proofs.Common.{◌≡◌, ◌++◌}
use Rattle.unpacking.specs.Bands.{row_from}
use Rattle.unpacking.proofs.bands.push_row.Given as goal

abbrev pub invariant-loop-x : goal.invariant-loop-x
invariant-loop-x g l = l.raster.items ≡ l.initial.raster.items ++ row_from g.row.W l.decoded l.y l.x
