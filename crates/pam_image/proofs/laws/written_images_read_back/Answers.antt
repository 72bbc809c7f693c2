use Rattle.pam_image.proofs.WrittenLaws.{written-reads}
use Rattle.pam_image.proofs.laws.written_images_read_back.Goals as goal

pub returns : goal.returns
returns c = record { reads_back = written-reads }
