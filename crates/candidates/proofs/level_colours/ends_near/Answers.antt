use Rattle.candidates.proofs.LevelLaws.{ends_near-is}
use Rattle.candidates.proofs.level_colours.ends_near.Goals as goal

pub returns : goal.returns
returns c =
    ends_near-is c.args.cem c.args.level c.args.wanted.now c.loop-value.value-index
    c.loop-value-test.false c.loop-value.values.items _ c.endpoints.result
    c.loop-value.invariant c.as_slice.ensures.value c.endpoints.ensures
