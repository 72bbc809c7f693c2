use Rattle.std.proofs.Common.{arith}
use Rattle.error_tables.proofs.FloorLaws.{count_more}
use Rattle.error_tables.proofs.floors.inside_count.Goals as goal

pub loop-p-preserved : goal.loop-p-preserved
loop-p-preserved c = record {
  count = count_more c.args.places.now c.args.reach.now c.loop-p.p-index _ _ _ c.loop-p-test.true
      c.from.ensures c.loop-p.invariant.count c.one_inside-count.ensures.exact;
  few = omega (arith, c.loop-p.invariant.few, c.one_inside-count.ensures.small);
}
