use Rattle.std.proofs.Common.{length, ap, ◌∙◌, arith}
use Rattle.texel_error.proofs.SourceLaws.{all_lanes}
use Rattle.listed_walk.proofs.OriginLaws.{group_far, lane_factors, lanes_more, lanes_within}
use Rattle.listed_walk.proofs.origins.group_of.Goals as goal

pub loop-t-preserved : goal.loop-t-preserved
loop-t-preserved g c =
    let around = c.args.around.now in
    let grid = c.args.grid.now in
    let t = c.loop-t.t in
    let places = c.loop-t.places in
    let factors = c.loop-t.factors in
    let before = c.loop-t.invariant in
    let own = c.origins_of.result in
    record {
      all_places = ap length c.put_texel.ensures ∙ all_lanes places t own.0 ∙ before.all_places;
      all_factors = ap length c.put_texel-in-loop-t.ensures ∙ all_lanes factors t own.1
          ∙ before.all_factors;
      each = λ s l. rw (c.put_texel.ensures, c.put_texel-in-loop-t.ensures)
          (lanes_more g.row.W g.row.H around.columns around.rows grid t places factors own.0 own.1
          c.loop-t-test.true before.all_places before.all_factors c.args.g before.each
          c.origins_of.ensures s l);
    }

pub in_runs-requires-clause-places : goal.in_runs-requires-clause-places
in_runs-requires-clause-places g c =
    let around = c.args.around.now in
    lanes_within g.row.W g.row.H around.columns around.rows c.args.grid.now c.args.g
    c.loop-t.places c.loop-t.factors c.loop-t.invariant.all_factors
    (λ s l. c.loop-t.invariant.each s (omega arith))

pub in_runs-requires-clause-factors : goal.in_runs-requires-clause-factors
in_runs-requires-clause-factors g c =
    let around = c.args.around.now in
    lane_factors g.row.W g.row.H around.columns around.rows c.args.grid.now c.args.g
    c.loop-t.places c.loop-t.factors c.loop-t.invariant.all_factors
    (λ s l. c.loop-t.invariant.each s (omega arith))

pub returns-else-in_runs : goal.returns-else-in_runs
returns-else-in_runs g c =
    let around = c.args.around.now in
    let of = c.of.ensures in
    group_far g.row.W g.row.H around.columns around.rows c.args.grid.now c.args.g c.loop-t.places
    c.loop-t.factors c.loop-t.invariant.all_factors
    (λ s l. c.loop-t.invariant.each s (omega arith)) c.of.result of.near of.places of.factors
    (ap length of.places ∙ c.loop-t.invariant.all_places) of.all
