use Rattle.std.proofs.Common.{sym, ap, ◌∙◌}
use Rattle.astc_model.specs.Targets.{quotient}
use Rattle.candidates.specs.Axes.{num_on}
use Rattle.candidates.specs.Pieces.{texel_target}
use Rattle.candidates.proofs.AxisLaws.{axis_target}
use Rattle.candidates.proofs.weights.texel_target.Goals as goal

pub returns-in-Some-clause-target : goal.returns-in-Some-clause-target
returns-in-Some-clause-target c = λ component plane ends is.
    c.target.ensures.target ∙ ap (λ axis. quotient (num_on axis c.in-Some.q) axis.length) is
    ∙ axis_target component plane ends c.in-Some.q
    ∙ ap (λ texel. texel_target component plane texel ends) (sym c.in-Some.is)
