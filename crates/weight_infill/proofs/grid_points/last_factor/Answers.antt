use Rattle.weight_infill.proofs.InfillLaws.{last_factor-is}
use Rattle.weight_infill.proofs.grid_points.last_factor.Goals as goal

pub returns-clause-both : goal.returns-clause-both
returns-clause-both c =
    (last_factor-is c.args.across c.args.down c.requires.across c.requires.down).both
