use Rattle.std.proofs.Common.{lit<, refl}
use Rattle.texel_error.specs.declared.drawn.Outline.{Outline}
use Rattle.listed_walk.proofs.ViewLaws.{it_can_be_drawn, it_is_drawn_from}
use Rattle.listed_walk.proofs.walk.Walk.drawn_from.Goals as goal

pub drawn_under-requires : goal.drawn_under-requires
drawn_under-requires g c =
    let its = c.args.view.now in
    let first = c.points_of in
    let second = c.last_points in
    let outline : Outline = record {
      colours = record { ref_ptr = _; now = its.drawing.now.lanes.now.colours };
      plane = its.layout.now.shape.now.plane;
      groups = record { ref_ptr = _; now = c.args.origins.now.groups };
      first = first.result;
      second = second.result;
    } in (
      lit< tt,
      (
        it_can_be_drawn g.row.W g.row.H c.args.self.now its c.requires.view
            c.args.origins.now.groups c.requires.origins outline refl refl first.ensures.values
            second.ensures.values first.ensures.have second.ensures.have,
        c.self.invariant.1,
      ),
    )

pub returns-clause-exact : goal.returns-clause-exact
returns-clause-exact g c =
    let its = c.args.view.now in
    let first = c.points_of in
    let second = c.last_points in
    rw (← c.self.view_is)
    (c.drawn_under.ensures.exact _
    (rw c.self.view_is
    (it_is_drawn_from g.row.W g.row.H c.args.self.now its c.requires.view
    c.args.origins.now.groups c.requires.origins _ refl refl first.ensures.values
    second.ensures.values first.ensures.have second.ensures.have refl)))
