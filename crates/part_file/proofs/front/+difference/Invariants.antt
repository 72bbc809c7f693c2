use Rattle.std.proofs.Common.{length}
use Rattle.part_file.proofs.front.+difference.Given as goal

abbrev pub decreases-difference : goal.decreases-difference
decreases-difference l = length l.text.now
