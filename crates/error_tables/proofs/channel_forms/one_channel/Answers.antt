use Rattle.error_tables.proofs.channel_forms.one_channel.Goals as goal

pub returns-clause-more : goal.returns-clause-more
returns-clause-more c = λ first second.
    rw (
      c.from-share.ensures,
      c.share_at.ensures.exact,
      c.factor_of-factor.ensures.exact,
      c.widening_of.ensures,
      c.moments_at-moments.ensures.exact,
    ) at (c.multiples.ensures.more
    first second)

pub returns-clause-less : goal.returns-clause-less
returns-clause-less c = λ first second.
    rw (
      c.from-share.ensures,
      c.share_at.ensures.exact,
      c.factor_of-factor.ensures.exact,
      c.widening_of.ensures,
      c.moments_at-moments.ensures.exact,
    ) at (c.multiples.ensures.less
    first second)
