use Rattle.descent.proofs.EncodeLaws.{stays_settled}
use Rattle.descent.proofs.encode.settled_best.Goals as goal

pub returns-clause-best : goal.returns-clause-best
returns-clause-best g c =
    stays_settled g.row.W g.row.H c.args.goal.now c.args.search.now.preset c.args.search.now.fits
    c.args.proposals.now _ _ c.best_start-best.ensures.best
    c.settle.ensures.sound c.settle.ensures.lower c.settle.ensures.none_yet c.settle.ensures.none
    c.settle.ensures.settled
