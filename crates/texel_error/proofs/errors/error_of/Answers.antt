use Rattle.std.proofs.Common.{◌∙◌}
use Rattle.texel_error.proofs.LimitLaws.{error-is}
use Rattle.texel_error.proofs.errors.error_of.Goals as goal

pub returns-clause-exact : goal.returns-clause-exact
returns-clause-exact g c =
    c.sum_of.ensures.sum
    ∙ error-is g.row.W g.row.H c.args.flavour c.args.weights c.args.block.now
    c.decode-decoded.result c.args.source.now _ _ _
    c.decode-decoded.ensures.shows c.of.ensures.same c.places-places.ensures.all
    c.places-places.ensures.count
