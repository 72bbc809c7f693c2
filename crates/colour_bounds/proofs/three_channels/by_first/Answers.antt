use Rattle.colour_bounds.proofs.ThreeChannelsLaws.{by_first_more}
use Rattle.colour_bounds.proofs.three_channels.by_first.Goals as goal

pub returns-clause-more : goal.returns-clause-more
returns-clause-more c = λ first.
    rw c.of_one.ensures.exact
    (by_first_more c.args.one.now.first_square c.args.one.now.product c.args.one.now.second_square
    c.args.one.now.start first c.args.second)
