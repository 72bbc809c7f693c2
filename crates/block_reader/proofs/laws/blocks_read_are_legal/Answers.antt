use Rattle.block_reader.proofs.ReadingLaws.{read-legal}
use Rattle.block_reader.proofs.laws.blocks_read_are_legal.Goals as goal

pub returns : goal.returns
returns c = read-legal
