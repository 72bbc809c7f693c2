use Rattle.std.proofs.Common.{arith}
use Rattle.astc_model.proofs.FootprintLaws.{sides_few}
use Rattle.texel_error.proofs.ColourLaws.{partitions_more}
use Rattle.texel_error.proofs.colours.put_partitions.Goals as goal

pub loop-p-preserved : goal.loop-p-preserved
loop-p-preserved g c =
    let few = sides_few g.row.W g.row.H c.requires.footprint in
    rw c.put_texel.ensures
    (partitions_more c.args.parts.now c.loop-p.p c.loop-p.lanes c.loop-p.invariant
    (omega (arith, c.loop-p-test.true, few)) c.part_at-entry.result c.part_at-entry.ensures.exact
    c.part_at-entry.ensures.few)
