use Rattle.std.proofs.Common.{length}
use Rattle.ise_codec.proofs.writing.+write_trits.Given as goal

abbrev pub decreases-write_trits : goal.decreases-write_trits
decreases-write_trits l = length l.values.now
