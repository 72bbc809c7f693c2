use Rattle.std.proofs.Common.{arith, ◌+◌, ◌%◌}
use Rattle.texel_lanes.proofs.LaneLaws.{made, own, same_lanes}
use Rattle.texel_lanes.proofs.lines.four_times_and.Goals as goal

pub returns : goal.returns
returns c =
    let a = c.args.one in
    let b = c.args.other in
    let one = own 4 a c.fits-one.0 in
    let two = made 4 (λ a b. (a + b) % 4294967296) a a _ _ one one in
    same_lanes 4 _ _ _ (made 4 (λ a b. (a + b) % 4294967296) _ b _ _
    (made 4 (λ a b. (a + b) % 4294967296) _ _ _ _ two two) (own 4 b c.fits-other.0))
    (λ k l. omega (arith, c.requires.one k l, c.requires.other k l))
