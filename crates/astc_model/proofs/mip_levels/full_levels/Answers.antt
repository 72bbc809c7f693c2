use Rattle.std.proofs.Common.{◌+◌, ◌≤◌, max, arith, ap, sym}
use Rattle.astc_model.specs.Chains.{full_levels_of}
use Rattle.astc_model.proofs.ChainLaws.{exponent_below-is, exponent_small}
use Rattle.astc_model.proofs.mip_levels.full_levels.Goals as goal

pub returns-clause-exact : goal.returns-clause-exact
unfolding full_levels_of
returns-clause-exact c =
    let few : c.ilog2.result ≤ 13 = exponent_small c.max.result c.ilog2.result
    (omega arith) c.ilog2.ensures.power_le in
    ap (λ e. e + 1) (sym (exponent_below-is 13 (max c.args.width c.args.height) c.ilog2.result few
    (rw c.max.ensures at c.ilog2.ensures.power_le)
    (rw c.max.ensures at c.ilog2.ensures.next_power_gt)))

pub returns-clause-most : goal.returns-clause-most
returns-clause-most c =
    let few : c.ilog2.result ≤ 13 = exponent_small c.max.result c.ilog2.result
    (omega arith) c.ilog2.ensures.power_le in
    omega arith
