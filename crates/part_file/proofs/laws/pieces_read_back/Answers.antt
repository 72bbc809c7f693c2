use Rattle.part_file.proofs.WrittenLemmas.{block_again, error_again}
use Rattle.part_file.proofs.laws.pieces_read_back.Goals as goal

pub returns-clause-block : goal.returns-clause-block
returns-clause-block c = block_again

pub returns-clause-error : goal.returns-clause-error
returns-clause-error c = error_again
