use Rattle.std.proofs.Common.{◌≡◌, length}
use Rattle.packed_levels.specs.Sources.{sources}
use Rattle.packed_levels.specs.Settled.{way_by, AreSettledFrom}
use Rattle.packed_levels.proofs.settling.settle_each.Given as goal

abbrev pub invariant-loop-k : goal.invariant-loop-k
invariant-loop-k g l = record {
  settled : AreSettledFrom (way_by g.row.W g.row.H l.encoder) l.others
      (sources l.layout l.levels) l.range.start l.blocks.items l.errors.items;
  full : length l.blocks.items ≡ l.k;
}
