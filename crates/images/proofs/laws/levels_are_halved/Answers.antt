use Rattle.images.proofs.LevelLaws.{level_sides, level_is_valid}
use Rattle.images.proofs.laws.levels_are_halved.Goals as goal

pub returns : goal.returns
returns c = record { sides = level_sides; valid = level_is_valid }
