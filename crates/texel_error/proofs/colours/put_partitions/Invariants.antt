use Rattle.texel_error.specs.PlaceColours.{ArePartitionLanesTo}
use Rattle.texel_error.proofs.colours.put_partitions.Given as goal

abbrev pub invariant-loop-p : goal.invariant-loop-p
invariant-loop-p g l = ArePartitionLanesTo l.parts l.p l.lanes
