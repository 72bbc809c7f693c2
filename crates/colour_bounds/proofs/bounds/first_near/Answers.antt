use Rattle.std.proofs.Common.{◌-◌, arith}
use Rattle.colour_bounds.proofs.CurveLaws.{far_below}
use Rattle.colour_bounds.proofs.bounds.first_near.Goals as goal

pub returns-then-reaches-clause-far : goal.returns-then-reaches-clause-far
returns-then-reaches-clause-far c = λ value low below.
    far_below c.args.curve c.args.most value (c.from-present.result - 1 - c.loop-step.step)
    c.args.present
    (omega (arith, below)) (omega (arith, c.from-present.ensures, c.loop-step-test.true))
    (c.reaches.ensures.0 c.if-reaches.true) c.requires.near
