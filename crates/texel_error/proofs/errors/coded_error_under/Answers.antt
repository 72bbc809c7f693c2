use Rattle.std.proofs.Common.{◌∙◌, ap}
use Rattle.astc_model.specs.declared.block.Block.TheVariants.{Coded}
use Rattle.texel_error.specs.Limited.{under}
use Rattle.texel_error.proofs.LimitLaws.{error-is, steps-are}
use Rattle.texel_error.proofs.errors.coded_error_under.Goals as goal

pub returns-clause-exact : goal.returns-clause-exact
returns-clause-exact g c =
    let aim = c.args.goal.now in
    c.sum_under.ensures.exact
    ∙ ap (under c.args.limit) (error-is g.row.W g.row.H aim.flavour aim.weights
    (Coded c.args.coded.now) c.decode_legal-decoded.result aim.places _ _ _
    (rw c.flavour.ensures at c.decode_legal-decoded.ensures.shows) (c.of.ensures.same
    ∙ c.weights.ensures)
    (c.places-places.ensures.all ∙ c.source.ensures) c.places-places.ensures.count)

pub returns-clause-steps : goal.returns-clause-steps
returns-clause-steps g c =
    let aim = c.args.goal.now in
    rw (← steps-are g.row.W g.row.H aim.flavour aim.weights
    (Coded c.args.coded.now) c.decode_legal-decoded.result aim.places _ _ _ c.args.limit
    (rw c.flavour.ensures at c.decode_legal-decoded.ensures.shows) (c.of.ensures.same
    ∙ c.weights.ensures)
    (c.places-places.ensures.all ∙ c.source.ensures) c.places-places.ensures.count)
    c.sum_under.ensures.steps
