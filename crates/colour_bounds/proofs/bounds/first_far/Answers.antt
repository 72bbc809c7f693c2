use Rattle.std.proofs.Common.{arith}
use Rattle.colour_bounds.proofs.CurveLaws.{far_above}
use Rattle.colour_bounds.proofs.bounds.first_far.Goals as goal

pub returns-then-reaches-clause-far : goal.returns-then-reaches-clause-far
returns-then-reaches-clause-far c = λ value small high below.
    far_above c.args.curve c.args.most c.args.present c.loop-value.value value
    (omega (arith, c.from-value.ensures, c.loop-value.auto.value)) high
    (c.reaches.ensures.0 c.if-reaches.true) c.requires.near
