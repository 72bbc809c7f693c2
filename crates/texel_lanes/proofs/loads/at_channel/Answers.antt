use Rattle.texel_lanes.proofs.LaneLaws.{chosen_by_channel}
use Rattle.texel_lanes.proofs.loads.at_channel.Goals as goal

pub returns : goal.returns
returns c =
    chosen_by_channel c.args.here c.args.elsewhere c.from-own.result c.args.channel
    c.from-own.ensures
    c.requires.here c.requires.elsewhere
