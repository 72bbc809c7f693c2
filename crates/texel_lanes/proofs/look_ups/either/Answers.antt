use Rattle.std.proofs.Common.{bit_or}
use Rattle.texel_lanes.proofs.LaneLaws.{zipped}
use Rattle.texel_lanes.proofs.look_ups.either.Goals as goal

pub returns : goal.returns
returns c = zipped 16 bit_or c.args.first c.args.second c.fits-first.0 c.fits-second.0
