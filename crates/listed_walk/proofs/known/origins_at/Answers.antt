use Rattle.std.proofs.Common.{◌/◌, ap, sym, ◌∙◌, arith}
use Rattle.listed_walk.proofs.InsideLaws.{grid_inside}
use Rattle.listed_walk.proofs.known.origins_at.Goals as goal

pub origins_in-requires-clause-within : goal.origins_in-requires-clause-within
origins_in-requires-clause-within g c =
    grid_inside g.row.W g.row.H c.args.patterns.now c.requires.patterns (c.args.n / 121)
    _ (omega arith) (omega arith) c.index-patterns-n.result c.index-patterns-n.is
    c.deref.result.now
    (c.deref.ensures.0 ∙ ap (λ own. own.by_sides.items) (sym c.index-patterns-n.is))
    c.index-deref-k.result c.index-deref-k.is c.as_slice.result.now
    c.as_slice.ensures.value
