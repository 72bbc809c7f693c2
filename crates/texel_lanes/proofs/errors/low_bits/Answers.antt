use Rattle.texel_lanes.proofs.LaneLaws.{low_twelve}
use Rattle.texel_lanes.proofs.errors.low_bits.Goals as goal

pub returns : goal.returns
returns c = low_twelve c.args.lanes c.fits-lanes.0 c.requires
