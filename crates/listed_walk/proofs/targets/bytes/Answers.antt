use Rattle.std.proofs.Common.{arith, w8, Fits}
use Rattle.std.proofs.lemmas.Simd.{Each1-get_or}
use Rattle.listed_walk.proofs.targets.bytes.Goals as goal

pub returns-clause-small : goal.returns-clause-small
returns-clause-small c = λ k l.
    let long = c.fits-lanes.0 in
    omega (arith, (Each1-get_or (Fits w8) c.args.lanes k 0 (omega arith) c.fits-lanes.1).fits)
