use Rattle.std.proofs.Common.{◌<◌, ◌*◌, rules, refl, ◌∙◌}
use Rattle.candidates.proofs.SideLaws.{grid_by_sides}
use Rattle.candidates.proofs.weights.grid_of.Goals as goal

pub returns-then-are_inside : goal.returns-then-are_inside
returns-then-are_inside g c =
    let some_w : 0 < g.row.W = search rules in
    let some_h : 0 < g.row.H = search rules in
    let some : 0 < g.row.W * g.row.H = search rules in
    c.grid_of_sides.ensures ∙ grid_by_sides g.row.W g.row.H c.args.n c.args.m c.args.places.now
    some_w some_h some c.requires.places (c.if-are_inside.ensures.inside refl)
