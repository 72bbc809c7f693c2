use Rattle.std.proofs.Common.{arith, ◌+◌, ◌%◌}
use Rattle.texel_lanes.proofs.LaneLaws.{made, own, same_lanes}
use Rattle.texel_lanes.proofs.errors.added.Goals as goal

pub returns : goal.returns
returns c =
    let a = c.args.one in
    let b = c.args.other in
    same_lanes 8 _ _ _ (made 8 (λ a b. (a + b) % 4294967296) a b _ _ (own 8 a c.fits-one.0)
    (own 8 b c.fits-other.0))
    (λ k l. omega (arith, c.requires.one k l, c.requires.other k l))
