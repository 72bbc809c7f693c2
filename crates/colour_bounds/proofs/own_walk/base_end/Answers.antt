use Rattle.colour_bounds.proofs.TrendLaws.{offsetting_is, bases_rise, bases_fall}
use Rattle.colour_bounds.proofs.own_walk.base_end.Goals as goal

pub returns-in-Rising : goal.returns-in-Rising
returns-in-Rising c = rw c.in-Rising.is (bases_rise c.args.cem c.args.place
    (offsetting_is c.args.cem c.requires.mode) c.requires.place c.requires.even)

pub returns-in-Falling : goal.returns-in-Falling
returns-in-Falling c = rw c.in-Falling.is (bases_fall c.args.cem c.args.place
    (offsetting_is c.args.cem c.requires.mode) c.requires.place c.requires.even)
