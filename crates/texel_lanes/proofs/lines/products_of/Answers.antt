use Rattle.std.proofs.Common.{arith}
use Rattle.std.proofs.lemmas.Simd.{dot4_Fits}
use Rattle.texel_lanes.proofs.LaneLaws.{below_by_test, dots_are}
use Rattle.texel_lanes.proofs.lines.products_of.Goals as goal

pub dot4 : goal.dot4
dot4 c =
    let fs = c.args.factors in
    let long = c.fits-factors.0 in (
      dot4_Fits c.args.channels fs c.fits-channels.1
          (below_by_test 65 fs (λ k l. omega (arith, c.requires.factors k (omega arith)))),
      below_by_test 128 fs (λ k l. omega (arith, c.requires.factors k (omega arith))),
    )

pub returns : goal.returns
returns c = dots_are c.args.channels c.args.factors c.fits-channels.0 c.fits-factors.0
