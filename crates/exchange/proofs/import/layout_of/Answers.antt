use Rattle.exchange.proofs.ImportLaws.{shape-valid}
use Rattle.exchange.proofs.import.layout_of.Goals as goal

pub new-requires : goal.new-requires
new-requires c = rw (c.width.ensures.same, c.height.ensures.same)
    (shape-valid c.args.flavour c.args.image.now c.name.ensures.valid)
