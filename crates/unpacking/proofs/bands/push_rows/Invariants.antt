use Rattle.std.proofs.Common.{◌≡◌, ◌++◌}
use Rattle.unpacking.specs.Bands.{rows_from}
use Rattle.unpacking.proofs.bands.push_rows.Given as goal

abbrev pub invariant-loop-y : goal.invariant-loop-y
invariant-loop-y g l = l.raster.items
    ≡ l.initial.raster.items ++ rows_from g.row.W l.decoded l.width l.y
