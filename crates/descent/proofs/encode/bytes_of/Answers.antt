use Rattle.descent.proofs.EncodeLaws.{mean_is_settled}
use Rattle.descent.proofs.encode.bytes_of.Goals as goal

pub returns-in-None-clause-settled : goal.returns-in-None-clause-settled
returns-in-None-clause-settled g c = λ preset proposals is.
    mean_is_settled g.row.W g.row.H c.args.goal.now preset proposals c.args.best.now
    c.mean_constant.result c.constant_bytes.result c.source.result.now
    is.best_for c.in-None.is c.source.ensures c.mean_constant.ensures.mean
    c.constant_bytes.ensures.bytes (c.constant_bytes.ensures.reads_back g.row.W g.row.H)
    (c.mean_constant.ensures.settled c.args.goal.now.flavour c.args.goal.now.weights preset)
