use Rattle.block_mode.proofs.ChangeLaws.{changed-legal}
use Rattle.block_mode.proofs.laws.changed_blocks_are_legal.Goals as goal

pub returns : goal.returns
returns c = changed-legal
