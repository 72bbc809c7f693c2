use Rattle.std.proofs.Common.{◌+◌, ◌-◌, ◌*◌}
use Rattle.block_mode.proofs.ModeLaws.{few_of_weights}
use Rattle.block_mode.proofs.modes.level_of.Goals as goal

pub returns-clause-few : goal.returns-clause-few
returns-clause-few c = few_of_weights (6 * c.args.h + (c.args.r - 2))
