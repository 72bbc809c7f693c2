use Rattle.std.proofs.Common.{arith, w8, Fits}
use Rattle.std.proofs.lemmas.Simd.{Each1-get_or}
use Rattle.texel_lanes.proofs.LineLaws.{apart_bytes}
use Rattle.texel_lanes.proofs.lines.distances.Goals as goal

pub returns-clause-lanes : goal.returns-clause-lanes
returns-clause-lanes c =
    apart_bytes c.args.one c.args.other c.fits-one.0 c.fits-other.0 c.fits-one.1 c.fits-other.1

pub returns-clause-small : goal.returns-clause-small
returns-clause-small c = λ k l.
    let a = c.args.one in
    let b = c.args.other in
    let along = c.fits-one.0 in
    let blong = c.fits-other.0 in
    omega (
      arith,
      (apart_bytes a b along blong c.fits-one.1 c.fits-other.1).each k l,
      (Each1-get_or (Fits w8) a k 0 (omega arith) c.fits-one.1).fits,
      (Each1-get_or (Fits w8) b k 0 (omega arith) c.fits-other.1).fits,
    )
