use Rattle.std.proofs.Common.{◌≡◌, take}
use Rattle.std.specs.List.{flat_map}
use Rattle.parting.specs.Gathering.{slot_blocks}
use Rattle.parting.proofs.blocks.all_blocks.Given as goal

abbrev pub invariant-loop-slot : goal.invariant-loop-slot
invariant-loop-slot l = l.blocks.items ≡ flat_map slot_blocks (take l.slot-index l.slots)
