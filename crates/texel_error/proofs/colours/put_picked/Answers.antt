use Rattle.texel_error.proofs.ColourLaws.{picked_more}
use Rattle.texel_error.proofs.colours.put_picked.Goals as goal

pub loop-g-preserved : goal.loop-g-preserved
loop-g-preserved g c =
    picked_more c.loop-g.g c.args.table.now c.lanes_of-entries.result c.args.lanes.now
    c.four_texels_at-own.result c.picked.result c.loop-g.bytes c.put_four_texels.new.bytes
    c.lanes_of-entries.ensures c.four_texels_at-own.ensures c.picked.ensures
    c.put_four_texels.ensures c.loop-g.invariant
