use Rattle.std.proofs.Common.{Ok, subst}
use Rattle.astc_rows.specs.Arguments.{AnswersAlways}
use Rattle.astc_rows.specs.Settling.{AreRowsPolished}
use Rattle.astc_rows.proofs.SettlingLaws.{polished}
use Rattle.astc_rows.proofs.no_alloc.polish_rows_no_alloc.Goals as goal

pub returns-in-Ok-clause-polished : goal.returns-in-Ok-clause-polished
returns-in-Ok-clause-polished c =
    let now = c.settle_call_no_alloc.new.blocks in
    subst (λ r. AnswersAlways (AreRowsPolished c.args.texels.now c.args.blocks.now now) r
    (Ok c.settle_call_no_alloc.result)) c.in-Ok.ensures.same
    (polished c.args.texels.now c.args.blocks.now now c.in-Ok.call c.settle_call_no_alloc.result
    c.settle_call_no_alloc.ensures.settled)
