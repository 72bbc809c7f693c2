use Rattle.std.proofs.Common.{◌*◌, refl}
use Rattle.error_tables.specs.Floors.{weight_sum}
use Rattle.error_tables.proofs.FloorLaws.{hopeless}
use Rattle.error_tables.proofs.floors.is_over.Goals as goal

pub returns : goal.returns
returns c = λ reach bar is enough reached.
    hopeless c.args.tables.now c.args.ends.now reach c.args.floor.now c.args.most bar
    (weight_sum c.args.tables.now * c.args.floor.now.count) is
    refl enough (rw (c.form_of.ensures.less, c.form_of.ensures.more) at (c.reaches.ensures.exact.0
    reached))
