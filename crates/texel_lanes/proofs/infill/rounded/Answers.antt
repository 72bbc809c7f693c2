use Rattle.std.proofs.Common.{arith, replicate, ◌+◌, ◌%◌}
use Rattle.texel_lanes.proofs.LaneLaws.{made, own, same_lanes, splat, shifted}
use Rattle.texel_lanes.proofs.infill.rounded.Goals as goal

pub returns : goal.returns
returns c =
    let v = c.args.numerators in
    same_lanes 4 _ _ _
    (made 4 shifted _ _ _ _ (made 4 (λ a b. (a + b) % 4294967296) v (replicate 4 8) _ _
    (own 4 v c.fits-numerators.0) (splat 4 8)) (splat 4 4))
    (λ k l. omega (arith, c.requires k l))
