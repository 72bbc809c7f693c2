use Rattle.colour_bounds.proofs.RankLaws.{integer_of_rank}
use Rattle.colour_bounds.proofs.ranks.rank_of.Goals as goal

pub returns-clause-inverse : goal.returns-clause-inverse
returns-clause-inverse c = rw c.rank_by_digits.ensures.exact
    (integer_of_rank c.args.level c.args.integer c.requires.level c.requires.range)
