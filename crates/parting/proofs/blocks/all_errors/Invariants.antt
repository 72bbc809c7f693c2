use Rattle.std.proofs.Common.{◌≡◌, take}
use Rattle.std.specs.List.{flat_map}
use Rattle.parting.specs.Gathering.{slot_errors}
use Rattle.parting.proofs.blocks.all_errors.Given as goal

abbrev pub invariant-loop-slot : goal.invariant-loop-slot
invariant-loop-slot l = l.errors.items ≡ flat_map slot_errors (take l.slot-index l.slots)
