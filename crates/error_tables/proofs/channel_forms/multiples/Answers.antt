use Rattle.error_tables.proofs.ChannelFormLaws.{one_more-is, one_less-is}
use Rattle.error_tables.proofs.channel_forms.multiples.Goals as goal

pub returns-clause-more : goal.returns-clause-more
returns-clause-more c = λ first second.
    rw (
      c.of_squares-first_squares.ensures.exact,
      c.of_squares-products.ensures.exact,
      c.of_squares-second_squares.ensures.exact,
    )
    (one_more-is c.args.share c.args.factor c.args.moments.now.first_squares
    c.args.moments.now.products c.args.moments.now.second_squares
    c.args.moments.now.target_squares first second c.args.others.now.more)

pub returns-clause-less : goal.returns-clause-less
returns-clause-less c = λ first second.
    rw (c.of_targets-first_targets.ensures.exact, c.of_targets-second_targets.ensures.exact)
    (one_less-is c.args.share c.args.factor c.args.moments.now.first_targets
    c.args.moments.now.second_targets first second c.args.others.now.less)
