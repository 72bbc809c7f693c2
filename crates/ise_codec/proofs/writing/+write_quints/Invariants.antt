use Rattle.std.proofs.Common.{length}
use Rattle.ise_codec.proofs.writing.+write_quints.Given as goal

abbrev pub decreases-write_quints : goal.decreases-write_quints
decreases-write_quints l = length l.values.now
