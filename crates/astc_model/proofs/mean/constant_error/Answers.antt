use Rattle.std.proofs.Common.{◌≡◌, ◌*◌, length, rules, sym, ◌∙◌, ap}
use Rattle.astc_model.specs.Blocks.{no_extent}
use Rattle.astc_model.specs.Errors.{place_error}
use Rattle.std.specs.Prelude.{sum_by}
use Rattle.astc_model.proofs.ErrorLaws.{error-constant}
use Rattle.astc_model.proofs.mean.constant_error.Goals as goal

pub returns-clause-exact : goal.returns-clause-exact
returns-clause-exact g c = λ flavour.
    let full : length c.args.source.now ≡ g.row.W * g.row.H = search rules in
    c.distance_from_all.ensures.exact
    ∙ ap (λ weights. sum_by (place_error weights c.top_bytes.result) c.places.result.now)
    c.of.ensures.same
    ∙ ap (λ places. sum_by (place_error c.args.weights c.top_bytes.result) places)
    c.places.ensures.all
    ∙ ap (λ shown. sum_by (place_error c.args.weights shown) c.args.source.now) c.top_bytes.ensures
    ∙ sym (error-constant g.row.W g.row.H flavour c.args.weights
    (record { rgba = c.args.rgba; extent = no_extent }) c.args.source.now full)
