use Rattle.std.proofs.Common.{◌≡◌, ◌*◌, length, rules}
use Rattle.astc_model.specs.Blocks.{mean_values}
use Rattle.astc_model.proofs.ErrorLaws.{FitsWide, means_are_least, means_are_settled, means_are_settled_alone}
use Rattle.astc_model.proofs.mean.mean_constant.Goals as goal

pub returns-clause-least : goal.returns-clause-least
returns-clause-least g c = λ flavour weights other.
    let fits : FitsWide c.widened_means.result = record {
      red = search rules;
      green = search rules;
      blue = search rules;
      alpha = search rules;
    } in
    let full : length c.args.source.now ≡ g.row.W * g.row.H = search rules in
    let same : c.widened_means.result ≡ mean_values c.args.source.now = search rules in
    means_are_least g.row.W g.row.H flavour weights c.args.source.now c.widened_means.result same
    full fits other

pub returns-clause-settled : goal.returns-clause-settled
returns-clause-settled g c = λ flavour weights preset none.
    let fits : FitsWide c.widened_means.result = record {
      red = search rules;
      green = search rules;
      blue = search rules;
      alpha = search rules;
    } in
    let full : length c.args.source.now ≡ g.row.W * g.row.H = search rules in
    let same : c.widened_means.result ≡ mean_values c.args.source.now = search rules in
    means_are_settled g.row.W g.row.H flavour weights c.args.source.now c.widened_means.result same
    full fits preset none

pub returns-clause-settled_flat : goal.returns-clause-settled_flat
returns-clause-settled_flat g c = λ flavour weights.
    let fits : FitsWide c.widened_means.result = record {
      red = search rules;
      green = search rules;
      blue = search rules;
      alpha = search rules;
    } in
    let full : length c.args.source.now ≡ g.row.W * g.row.H = search rules in
    let same : c.widened_means.result ≡ mean_values c.args.source.now = search rules in
    means_are_settled_alone g.row.W g.row.H flavour weights c.args.source.now c.widened_means.result
    same full fits
