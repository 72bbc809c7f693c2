use Rattle.std.proofs.Common.{arith}
use Rattle.std.proofs.lemmas.Nat.{mul-le}
use Rattle.texel_lanes.proofs.LaneLaws.{made, own, same_lanes, wrapped_product}
use Rattle.texel_lanes.proofs.errors.weighted.Goals as goal

pub returns : goal.returns
returns c =
    let a = c.args.distances in
    let b = c.args.gains in
    same_lanes 8 _ _ _ (made 8 wrapped_product a b _ _ (own 8 a c.fits-distances.0)
    (own 8 b c.fits-gains.0))
    (λ k l. omega (arith, mul-le _ _ 255 15 (c.requires.distances k l) (c.requires.gains k l)))
