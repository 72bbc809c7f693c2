use Rattle.error_tables.proofs.FloorLaws.{moments_more}
use Rattle.error_tables.proofs.floors.moments_of.Goals as goal

pub loop-p-preserved : goal.loop-p-preserved
loop-p-preserved c = record {
  are = moments_more c.args.tables.now c.args.channel c.loop-p.p-index _ c.args.reach.now _ _
      c.loop-p-test.true c.from.ensures
      c.loop-p.invariant.are c.add_place.ensures.floored;
  within = c.add_place.ensures.within c.loop-p.p-index c.loop-p.invariant.within;
}
