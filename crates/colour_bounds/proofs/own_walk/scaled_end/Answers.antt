use Rattle.colour_bounds.proofs.TrendLaws.{scaling_is, scaling_rises}
use Rattle.colour_bounds.proofs.own_walk.scaled_end.Goals as goal

pub returns : goal.returns
returns c = scaling_rises c.args.cem c.args.place c.args.trend
    (scaling_is c.args.cem c.requires.mode) c.requires.place
