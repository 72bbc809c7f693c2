use Rattle.std.proofs.Common.{◌∙◌, ap, sym, arith}
use Rattle.listed_walk.proofs.GridLaws.{grid_is}
use Rattle.listed_walk.proofs.grids.Grids.grid.Goals as goal

pub returns-then-place-self : goal.returns-then-place-self
returns-then-place-self c = λ w h places none are.
    grid_is w h c.args.mode.now places c.args.self.now.by_sides.now c.index-self-place.result
    c.as_slice.result.now c.grid_place-place.result c.requires none are.each
    c.grid_place-place.ensures.exact c.index-self-place.is (c.as_slice.ensures.value
    ∙ ap (λ x. x.items) (sym c.index-self-place.is))

pub returns-else-place-self : goal.returns-else-place-self
returns-else-place-self c = λ w h places none are.
    absurd (omega (arith, c.if-place-self.false, c.grid_place-place.ensures.below, are.each.all))
