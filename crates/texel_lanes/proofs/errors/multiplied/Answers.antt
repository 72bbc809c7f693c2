use Rattle.std.proofs.Common.{arith}
use Rattle.std.proofs.lemmas.Nat.{mul-le}
use Rattle.texel_lanes.proofs.LaneLaws.{made, own, same_lanes, product_32}
use Rattle.texel_lanes.proofs.errors.multiplied.Goals as goal

pub returns : goal.returns
returns c =
    let a = c.args.distances in
    let b = c.args.weighted in
    same_lanes 8 _ _ _ (made 8 product_32 a b _ _ (own 8 a c.fits-distances.0)
    (own 8 b c.fits-weighted.0))
    (λ k l. omega (
      arith,
      mul-le _ _ 255 3825 (c.requires.distances k l)
          (c.requires.weighted k l),
    ))
