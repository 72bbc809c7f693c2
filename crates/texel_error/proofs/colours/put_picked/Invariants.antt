use Rattle.texel_error.specs.PlaceColours.{ArePicked}
use Rattle.texel_error.proofs.colours.put_picked.Given as goal

abbrev pub invariant-loop-g : goal.invariant-loop-g
invariant-loop-g g l = ArePicked l.g l.table l.lanes l.bytes
