use Rattle.std.proofs.Common.{refl}
use Rattle.texel_lanes.proofs.LaneLaws.{made, own, same_lanes, splat, shifted}
use Rattle.texel_lanes.proofs.lines.quarters_of.Goals as goal

pub returns : goal.returns
returns c =
    let v = c.args.bytes in
    same_lanes 16 _ _ _ (made 16 shifted v _ _ _ (own 16 v c.fits-bytes.0) (splat 16 2))
    (λ k l. refl)
