use Rattle.std.proofs.Common.{arith, replicate}
use Rattle.texel_lanes.proofs.LaneLaws.{made, own, same_lanes, splat, wrapped_difference}
use Rattle.texel_lanes.proofs.mixing.rest_of.Goals as goal

pub returns : goal.returns
returns c =
    let v = c.args.weights in
    same_lanes 8 _ _ _ (made 8 wrapped_difference (replicate 8 64) v _ _ (splat 8 64)
    (own 8 v c.fits-weights.0))
    (λ k l. omega (arith, c.requires k l))
