use Rattle.std.proofs.Common.{◌≡◌, ap, ◌∙◌}
use Rattle.astc_model.specs.Blocks.{constant_of}
use Rattle.astc_model.specs.Errors.{error}
use Rattle.astc_model.specs.Settled.{mean_block}
use Rattle.encoder.proofs.VerdictLaws.{listed-then, listed-else}
use Rattle.encoder.proofs.verdict.meets_listed.Goals as goal

pub returns-then-error-constant_error : goal.returns-then-error-constant_error
returns-then-error-constant_error g c =
    let to = c.args.goal.now in
    let exact = rw (c.source-source.ensures, c.weights.ensures) at c.constant_error.ensures.exact
    to.flavour in
    let mean = rw c.source-source.ensures at c.mean_constant.ensures.mean in
    let at_mean : c.constant_error.result ≡ error g.row.W g.row.H to.flavour to.weights
    (mean_block to.places) to.places =
    exact ∙ ap (λ rgba. error g.row.W g.row.H to.flavour to.weights (constant_of rgba) to.places)
    mean in
    listed-then g.row.W g.row.H to.flavour to.weights c.args.search.now.preset to.places
    c.args.error c.constant_error.result at_mean c.is_none_under.result
    c.if-error-constant_error.true c.is_none_under.ensures.none_under

pub returns-else-error-constant_error : goal.returns-else-error-constant_error
returns-else-error-constant_error g c =
    let to = c.args.goal.now in
    let exact = rw (c.source-source.ensures, c.weights.ensures) at c.constant_error.ensures.exact
    to.flavour in
    let mean = rw c.source-source.ensures at c.mean_constant.ensures.mean in
    let at_mean : c.constant_error.result ≡ error g.row.W g.row.H to.flavour to.weights
    (mean_block to.places) to.places =
    exact ∙ ap (λ rgba. error g.row.W g.row.H to.flavour to.weights (constant_of rgba) to.places)
    mean in
    listed-else g.row.W g.row.H to.flavour to.weights c.args.search.now.preset to.places
    c.args.error c.constant_error.result at_mean c.if-error-constant_error.false
