use Rattle.std.proofs.Common.{length}
use Rattle.block_writer.proofs.packing.+packed.Given as goal

abbrev pub decreases-packed : goal.decreases-packed
decreases-packed l = length l.widths.now
