use Rattle.std.proofs.Common.{Ok, subst}
use Rattle.astc_rows.specs.Arguments.{Answers}
use Rattle.astc_rows.specs.Settling.{AreRowsPolished}
use Rattle.astc_rows.proofs.SettlingLaws.{polished}
use Rattle.astc_rows.proofs.settling.polish_rows.Goals as goal

pub returns-in-Ok-settle_call-clause-polished : goal.returns-in-Ok-settle_call-clause-polished
returns-in-Ok-settle_call-clause-polished c =
    let now = c.settle_call.new.blocks in
    subst (λ r. Answers (AreRowsPolished c.args.texels.now c.args.blocks.now now) r
    (Ok c.in-Ok-settle_call.error)) c.in-Ok.ensures.same
    (polished c.args.texels.now c.args.blocks.now now c.in-Ok.call c.in-Ok-settle_call.error
    c.in-Ok-settle_call.ensures.settled)
