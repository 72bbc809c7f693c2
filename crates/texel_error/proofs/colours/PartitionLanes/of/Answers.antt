use Rattle.texel_error.proofs.SourceLaws.{zeros}
use Rattle.texel_error.proofs.colours.PartitionLanes.of.Goals as goal

pub put_partitions-requires-clause-none : goal.put_partitions-requires-clause-none
put_partitions-requires-clause-none g c = λ k. zeros 576 k
