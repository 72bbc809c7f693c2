use Rattle.descent.proofs.EncodeLaws.{best_of_all, mean_error_of}
use Rattle.descent.proofs.encode.best_start.Goals as goal

pub returns-clause-best : goal.returns-clause-best
returns-clause-best g c =
    best_of_all g.row.W g.row.H c.args.goal.now c.args.search.now.preset c.args.proposals.now
    c.args.search.now.fits c.constant_error-limit.result _ _ _
    (mean_error_of g.row.W g.row.H c.args.goal.now c.weights.result c.source-source.result.now
    c.mean_constant.result c.constant_error-limit.result
    c.weights.ensures c.source-source.ensures c.mean_constant.ensures.mean
    (c.constant_error-limit.ensures.exact c.args.goal.now.flavour))
    c.constant_error-limit.ensures.small c.start-best.ensures.begins
    c.look_at_fitted_and_listed.ensures.looks c.look_at_proposals.ensures.looks
    c.look_at_proposals.ensures.sound
