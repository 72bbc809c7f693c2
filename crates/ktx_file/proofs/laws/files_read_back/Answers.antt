use Rattle.ktx_file.proofs.WrittenLemmas.{file_reads_back}
use Rattle.ktx_file.proofs.laws.files_read_back.Goals as goal

pub returns : goal.returns
returns c = file_reads_back
