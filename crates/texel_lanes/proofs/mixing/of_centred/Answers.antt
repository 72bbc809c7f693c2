use Rattle.std.proofs.Common.{arith, replicate}
use Rattle.texel_lanes.proofs.LaneLaws.{made, own, same_lanes, splat, shifted, wrapped_sum}
use Rattle.texel_lanes.proofs.mixing.of_centred.Goals as goal

pub returns : goal.returns
returns c =
    let v = c.args.mix in
    same_lanes 8 _ _ _
    (made 8 shifted _ _ _ _ (made 8 wrapped_sum v (replicate 8 32) _ _ (own 8 v c.fits-mix.0)
    (splat 8 32)) (splat 8 6))
    (λ k l. omega (arith, c.requires k l))
