use Rattle.std.proofs.Common.{set, arith}
use Rattle.colour_bounds.specs.Bounds.{in_order}
use Rattle.colour_bounds.proofs.BoundLaws.{straight}
use Rattle.colour_bounds.proofs.bounds.curve_along.Goals as goal

pub returns-clause-on : goal.returns-clause-on
returns-clause-on c = λ value.
    c.curve_of.ensures.on (λ v.
    in_order c.args.scan.now.cem (set c.args.scan.now.values c.args.place v))
    (straight c.args.scan.now.values c.args.place
    (omega (arith, c.requires.place, c.requires.eight)) c.args.scan.now.cem)
    c.in_order_with-first.ensures c.in_order_with-middle.ensures c.in_order_with-last.ensures value
