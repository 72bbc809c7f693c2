use Rattle.std.proofs.Common.{◌≡◌, ◌/◌, ◌+◌, ◌*◌, ◌^◌, ◌<◌, arith}
use Rattle.candidates.proofs.AxisLaws.{divided_law, divided_fits}
use Rattle.candidates.proofs.targets.divided.Goals as goal

pub overflow_mul-result : goal.overflow_mul-result
overflow_mul-result c =
    let small : c.args.n * c.args.inverse < 2 ^ 64 =
    rw c.requires.inverse (divided_fits c.args.n c.args.d c.requires.some c.requires.d
    c.requires.n) in
    omega (arith, small)

pub returns : goal.returns
returns c = rw c.requires.inverse
    (divided_law c.args.n c.args.d c.requires.some c.requires.d c.requires.n)
