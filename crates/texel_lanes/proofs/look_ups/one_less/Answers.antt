use Rattle.std.proofs.Common.{◌+◌, ◌-◌, ◌%◌}
use Rattle.texel_lanes.proofs.LaneLaws.{zipped_splat}
use Rattle.texel_lanes.proofs.look_ups.one_less.Goals as goal

pub returns : goal.returns
returns c = zipped_splat 16 (λ a b. (a + (256 - b)) % 256) c.args.targets 1 c.fits-targets.0
