use Rattle.std.proofs.Common.{◌+◌, ◌*◌, ◌∙◌, arith}
use Rattle.texel_error.proofs.LaneLaws.{both_same, eight_lanes, group_is}
use Rattle.texel_error.proofs.drawn.group_error.Goals as goal

pub returns-clause-exact : goal.returns-clause-exact
returns-clause-exact g c = λ weights places are.
    let flavour = c.args.flavour in
    let outline = c.args.outline.now in
    let lanes = c.args.lanes.now in
    let own = c.args.g in
    let first = eight_lanes flavour outline lanes own (16 * own) 0 (omega arith) (omega arith)
    c.channel_weights.result.0 c.shown_at-first.result c.squares_at.result
    c.channel_weights.ensures.first c.shown_at-first.ensures.lanes c.squares_at.ensures.lanes in
    let second = eight_lanes flavour outline lanes own (16 * own + 8) 2 (omega arith) (omega arith)
    c.channel_weights.result.1 c.shown_at-second.result c.squares_at-2.result
    c.channel_weights.ensures.second c.shown_at-second.ensures.lanes c.squares_at-2.ensures.lanes
    in
    c.sum_of_squares.ensures.exact ∙ both_same _ _ _ _ first second
    ∙ group_is flavour outline lanes weights places (g.row.W * g.row.H) own are
