use Rattle.part_file.proofs.WrittenLemmas.{part_reads_back}
use Rattle.part_file.proofs.laws.parts_read_back.Goals as goal

pub returns : goal.returns
returns c = part_reads_back
