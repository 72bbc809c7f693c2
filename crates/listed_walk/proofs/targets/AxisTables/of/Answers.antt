use Rattle.std.proofs.Common.{arith, refl}
use Rattle.listed_walk.proofs.TargetLaws.{tables_more}
use Rattle.listed_walk.proofs.targets.AxisTables.of.Goals as goal

pub loop-part-preserved : goal.loop-part-preserved
loop-part-preserved c =
    rw (c.put_texel.ensures, c.put_texel-in-loop-part.ensures, c.put_texel-in-loop-part-2.ensures)
    (tables_more c.args.axes.now c.loop-part.part c.loop-part.firsts c.loop-part.rises
    c.loop-part.origins c.loop-part.invariant
    (omega (arith, c.loop-part-test.true, c.requires.few)) _ _ _ refl c.rises_of.ensures
    c.origins_of.ensures)
