use Rattle.std.proofs.Common.{arith}
use Rattle.descent.proofs.CircleLaws.{colour_at, weight_at}
use Rattle.descent.proofs.circle.settle_place.Goals as goal

pub returns-then-place-colours-clause-least : goal.returns-then-place-colours-clause-least
returns-then-place-colours-clause-least g c =
    colour_at g.row.W g.row.H c.args.state.now _ c.settle_integer.result c.args.place
    (rw c.prepare.ensures at c.settle_integer.ensures.moves)
    (omega (arith, c.if-place-colours.true, c.count-colours.ensures.exact))
    c.settle_integer.ensures.least

pub returns-else-place-colours-clause-least : goal.returns-else-place-colours-clause-least
returns-else-place-colours-clause-least g c =
    weight_at g.row.W g.row.H c.args.state.now _ c.settle_integer-else-place-colours.result
    c.args.place _ c.settle_integer-else-place-colours.ensures.moves
    (omega (arith, c.if-place-colours.false, c.count-colours.ensures.exact))
    (omega (arith, c.count-colours.ensures.exact))
    c.settle_integer-else-place-colours.ensures.least
