use Rattle.std.proofs.Common.{◌∙◌, ap}
use Rattle.texel_error.specs.Limited.{under}
use Rattle.texel_error.proofs.LimitLaws.{error-is, steps-are}
use Rattle.texel_error.proofs.errors.error_under.Goals as goal

pub returns-clause-exact : goal.returns-clause-exact
returns-clause-exact g c =
    c.sum_under.ensures.exact
    ∙ ap (under c.args.limit)
    (error-is g.row.W g.row.H c.args.flavour c.args.weights c.args.block.now
    c.decode-decoded.result c.args.source.now _ _ _
    c.decode-decoded.ensures.shows c.of.ensures.same c.places-places.ensures.all
    c.places-places.ensures.count)

pub returns-clause-steps : goal.returns-clause-steps
returns-clause-steps g c =
    rw (← steps-are g.row.W g.row.H c.args.flavour c.args.weights c.args.block.now
    c.decode-decoded.result c.args.source.now _ _ _ c.args.limit
    c.decode-decoded.ensures.shows c.of.ensures.same c.places-places.ensures.all
    c.places-places.ensures.count) c.sum_under.ensures.steps
