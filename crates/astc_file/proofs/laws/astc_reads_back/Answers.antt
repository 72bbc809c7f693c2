use Rattle.astc_file.proofs.WrittenLemmas.{image_reads_back}
use Rattle.astc_file.proofs.laws.astc_reads_back.Goals as goal

pub returns : goal.returns
returns c = image_reads_back
