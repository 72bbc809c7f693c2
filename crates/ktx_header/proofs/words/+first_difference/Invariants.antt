use Rattle.std.proofs.Common.{length}
use Rattle.ktx_header.proofs.words.+first_difference.Given as goal

abbrev pub decreases-first_difference : goal.decreases-first_difference
decreases-first_difference l = length l.text.now
