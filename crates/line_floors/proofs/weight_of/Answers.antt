use Rattle.std.proofs.Common.{refl}
use Rattle.line_floors.specs.Floors.{line_weight}
use Rattle.line_floors.proofs.weight_of.Goals as goal

pub returns-clause-exact : goal.returns-clause-exact
unfolding line_weight
returns-clause-exact c =
    rw (c.gain_sum.ensures.exact, c.texel_count.ensures.exact, c.gains_of.ensures.exact) refl
