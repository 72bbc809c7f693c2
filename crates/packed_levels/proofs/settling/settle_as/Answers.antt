use Rattle.packed_levels.proofs.SettledLaws.{all-known}
use Rattle.packed_levels.proofs.settling.settle_as.Goals as goal

pub returns-clause-settled : goal.returns-clause-settled
returns-clause-settled g c =
    all-known g.row.W g.row.H c.args.layout.now.name c.args.settings.now c.new-encoder.result
    c.args.others.now _ c.args.range.start c.settle_each.result c.new-encoder.ensures
    c.requires.sides c.settle_each.ensures.settled
