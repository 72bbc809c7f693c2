use Rattle.colour_bounds.proofs.TrendLaws.{exchanging_is, direct_rises, direct_falls}
use Rattle.colour_bounds.proofs.own_walk.exchanged_end.Goals as goal

pub returns-in-Rising : goal.returns-in-Rising
returns-in-Rising c = rw c.in-Rising.is (direct_rises c.args.cem c.args.place
    (exchanging_is c.args.cem c.requires.mode) c.requires.place)

pub returns-in-Falling : goal.returns-in-Falling
returns-in-Falling c = rw c.in-Falling.is (direct_falls c.args.cem c.args.place
    (exchanging_is c.args.cem c.requires.mode) c.requires.place)
