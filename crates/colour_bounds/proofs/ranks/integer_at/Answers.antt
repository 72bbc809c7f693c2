use Rattle.colour_bounds.proofs.RankLaws.{rank_of_integer, values_rise_strictly}
use Rattle.colour_bounds.proofs.ranks.integer_at.Goals as goal

pub returns-clause-inverse : goal.returns-clause-inverse
returns-clause-inverse c = rw c.integer_by_digits.ensures.exact
    (rank_of_integer c.args.level c.args.rank c.requires.level c.requires.rank)

pub returns-clause-rises : goal.returns-clause-rises
returns-clause-rises c = λ higher more within.
    rw c.integer_by_digits.ensures.exact
    (values_rise_strictly c.args.level c.args.rank higher c.requires.level more within)
