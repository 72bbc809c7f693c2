use Rattle.watched_shelf.proofs.LengthLemmas.{length-ktx}
use Rattle.watched_shelf.proofs.laws.lengths_are_those_of_files.Goals as goal

pub returns : goal.returns
returns c = length-ktx
