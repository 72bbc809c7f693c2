use Rattle.std.proofs.Common.{◌∙◌, ap}
use Rattle.std.specs.List.{flat_map}
use Rattle.std.proofs.lemmas.List.{take_all}
use Rattle.parting.specs.Gathering.{slot_errors}
use Rattle.parting.proofs.BlockLaws.{errors-are}
use Rattle.parting.proofs.blocks.all_errors.Goals as goal

pub returns : goal.returns
returns c = c.loop-slot.invariant
    ∙ ap (flat_map slot_errors)
    (take_all c.loop-slot.slot-index c.args.slots.now c.loop-slot-test.false)
    ∙ errors-are c.args.slots.now
