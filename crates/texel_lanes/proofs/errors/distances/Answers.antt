use Rattle.texel_lanes.proofs.LaneLaws.{apart_lanes}
use Rattle.texel_lanes.proofs.errors.distances.Goals as goal

pub returns : goal.returns
returns c =
    apart_lanes c.args.shown c.args.wanted c.fits-shown.0 c.fits-wanted.0 c.fits-shown.1
    c.fits-wanted.1
