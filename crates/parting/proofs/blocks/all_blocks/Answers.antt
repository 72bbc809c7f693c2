use Rattle.std.proofs.Common.{◌∙◌, ap}
use Rattle.std.specs.List.{flat_map}
use Rattle.std.proofs.lemmas.List.{take_all}
use Rattle.parting.specs.Gathering.{slot_blocks}
use Rattle.parting.proofs.BlockLaws.{blocks-are}
use Rattle.parting.proofs.blocks.all_blocks.Goals as goal

pub returns : goal.returns
returns c = c.loop-slot.invariant
    ∙ ap (flat_map slot_blocks)
    (take_all c.loop-slot.slot-index c.args.slots.now c.loop-slot-test.false)
    ∙ blocks-are c.args.slots.now
