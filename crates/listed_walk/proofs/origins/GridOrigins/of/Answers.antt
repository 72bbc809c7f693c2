use Rattle.std.proofs.Common.{arith}
use Rattle.astc_model.proofs.FootprintLaws.{sides_few}
use Rattle.listed_walk.proofs.OriginLaws.{groups_more}
use Rattle.listed_walk.proofs.origins.GridOrigins.of.Goals as goal

pub loop-g-preserved : goal.loop-g-preserved
loop-g-preserved g c =
    let around = c.args.around.now in
    groups_more g.row.W g.row.H around.columns around.rows c.args.grid.now c.loop-g.g
    c.loop-g.groups c.group_of-own.result c.loop-g.invariant
    (omega (arith, c.loop-g-test.true, sides_few g.row.W g.row.H c.requires.footprint))
    c.group_of-own.ensures
