use Rattle.std.proofs.Common.{set}
use Rattle.colour_bounds.proofs.OneChannelLaws.{channel_small}
use Rattle.colour_bounds.specs.declared.one_channel.Trend.TheVariants.{Rising}
use Rattle.colour_bounds.proofs.bounds.single_channel_error.Goals as goal

pub channel_error-requires-clause-channel : goal.channel_error-requires-clause-channel
channel_error-requires-clause-channel g c =
    rw c.moved_channel-channel.ensures (channel_small Rising c.args.scan.now.cem c.args.place
    (set c.args.scan.now.values c.args.place c.args.value) c.requires.eight_places
    c.requires.rises)

pub returns-clause-exact : goal.returns-clause-exact
returns-clause-exact g c =
    rw (c.moved_channel-channel.ensures, c.moved_ends-first.ensures, c.from.ensures)
    at c.channel_error.ensures.exact
