use Rattle.std.proofs.Common.{◌≡◌, ◌*◌, length, rules}
use Rattle.astc_model.proofs.FootprintLaws.{sides_few}
use Rattle.listed_walk.proofs.ValueLaws.{have_values, values_of-is}
use Rattle.listed_walk.proofs.views.points_of.Goals as goal

pub returns-clause-have : goal.returns-clause-have
returns-clause-have g c =
    let whole : length c.args.targets.now ≡ 160 = search rules in
    have_values (g.row.W * g.row.H) c.args.level _ c.nearest_weight_values.ensures c.requires.level
    c.requires.targets whole

pub returns-clause-values : goal.returns-clause-values
returns-clause-values g c =
    let whole : length c.args.targets.now ≡ 160 = search rules in
    values_of-is (g.row.W * g.row.H) c.args.level _ c.nearest_weight_values.ensures
    c.requires.targets whole (sides_few g.row.W g.row.H c.requires.footprint)
