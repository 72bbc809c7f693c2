use Rattle.std.proofs.Common.{true, arith, rules}
use Rattle.parting.proofs.GatherLaws.{missing-here, all-there}
use Rattle.parting.proofs.gathering.all_there.Goals as goal

pub returns-then-is_none : goal.returns-then-is_none
returns-then-is_none c = missing-here c.loop-place.place c.args.slots.now c.loop-place.invariant
    c.loop-place-test.true (search rules)

pub returns : goal.returns
returns c = all-there 0 c.args.slots.now (λ j below. c.loop-place.invariant j (omega arith))
