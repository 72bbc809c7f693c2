use Rattle.outcomes.proofs.EndLaws.{ends-read_as}
use Rattle.parting.specs.Parts.{SettlesPart, BeginsSettled, front_for}
use Rattle.parting.specs.Framing.{FramesPart, BeginsFrame}
use Rattle.parting.proofs.part.pack_levels.Goals as goal

pub returns-in-Ok-clause-ends : goal.returns-in-Ok-clause-ends
returns-in-Ok-clause-ends g c =
    let job = c.args.job.now in
    let shape = c.args.layout.now in
    let settled = c.in-Ok.settled in
    let front = front_for job shape c.args.levels.now in
    ends-read_as (FramesPart front) (BeginsFrame front) (SettlesPart job shape)
    (BeginsSettled job shape) settled c.args.levels.now c.args.output.now _ _
    c.write_part.result
    (λ file lines made. record {
      blocks = settled.blocks.items;
      errors = settled.errors.items;
      settled = c.in-Ok.ensures;
      framed = made;
    })
    (λ k file begun. (
      begun.0,
      record {
        blocks = settled.blocks.items;
        errors = settled.errors.items;
        settled = c.in-Ok.ensures;
        framed = begun.1;
      },
    ))
    (rw c.front_for-front.ensures.same at c.write_part.ensures.ends)
