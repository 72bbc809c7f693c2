use Rattle.std.proofs.Common.{◌*◌, ◌≤◌, get_or, ap, ◌∙◌}
use Rattle.astc_model.proofs.FootprintLaws.{sides_few}
use Rattle.texel_lanes.specs.Lanes.{HasLanes}
use Rattle.texel_error.specs.Drawing.{values_of}
use Rattle.texel_error.specs.Groups.{place_of_lane}
use Rattle.texel_error.specs.Numerators.{rounded}
use Rattle.texel_error.proofs.GroupLaws.{numerators_are, value_lanes, weight_small}
use Rattle.texel_error.proofs.drawn.weights_of.Goals as goal

pub returns-clause-lanes : goal.returns-clause-lanes
returns-clause-lanes g c =
    let points = c.args.points.now in
    let own = c.args.own.now in
    let few : g.row.W * g.row.H ≤ 144 = sides_few g.row.W g.row.H c.requires.footprint in
    let values : HasLanes 16 c.values_at-values.result
    (λ k. get_or (values_of points) (place_of_lane own k) 0) =
    value_lanes (g.row.W * g.row.H) few points c.requires.points own c.requires.own
    c.lanes_at-targets.result c.values_at-values.result c.lanes_at-targets.ensures
    c.values_at-values.ensures in
    let numerators = rw c.lanes_of.ensures at c.numerators.ensures in
    record {
      long = c.rounded.ensures.long;
      each = λ t l. c.rounded.ensures.each t l
          ∙ ap rounded (numerators_are (g.row.W * g.row.H) few points c.requires.points own
          c.requires.own c.values_at-values.result c.numerators.result values numerators t l);
    }

pub returns-clause-small : goal.returns-clause-small
returns-clause-small g c = λ t l.
    let points = c.args.points.now in
    let own = c.args.own.now in
    let few : g.row.W * g.row.H ≤ 144 = sides_few g.row.W g.row.H c.requires.footprint in
    rw ((returns-clause-lanes g c).each t l)
    (weight_small (g.row.W * g.row.H) few points c.requires.points own c.requires.own t l)
