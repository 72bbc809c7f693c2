use Rattle.std.proofs.Common.{sym, ◌∙◌}
use Rattle.colour_bounds.proofs.SingleChannelLaws.{single_channel_is}
use Rattle.colour_bounds.specs.declared.one_channel.Trend.TheVariants.{Rising}
use Rattle.colour_bounds.proofs.bounds.single_channel_now.Goals as goal

pub returns-then-is_single_channel : goal.returns-then-is_single_channel
returns-then-is_single_channel g c =
    single_channel_is g.row.W g.row.H c.args.scan.now Rising c.args.place c.requires.scan
    c.requires.place
    (rw c.from.ensures at (sym c.is_single_channel.ensures ∙ c.if-is_single_channel.true))
    c.single_channel_error.result
    (rw c.from.ensures at c.single_channel_error.ensures.exact)
