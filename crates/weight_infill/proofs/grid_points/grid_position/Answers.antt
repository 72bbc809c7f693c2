use Rattle.astc_model.specs.Infill.{grid_position}
use Rattle.weight_infill.proofs.InfillLaws.{grid_position-le}
use Rattle.weight_infill.proofs.grid_points.grid_position.Goals as goal

pub returns-clause-within : goal.returns-clause-within
unfolding grid_position
returns-clause-within c = grid_position-le c.args.side c.args.points c.args.texel c.requires.most
    c.requires.points c.requires.texel
