use Rattle.astc_audit.proofs.EndLaws.{ends-told, ends-stopped}
use Rattle.astc_audit.proofs.audit.audit_images.Goals as goal

pub returns-in-Ok-report_audit-clause-ends : goal.returns-in-Ok-report_audit-clause-ends
returns-in-Ok-report_audit-clause-ends g c =
    rw c.outcome_of.ensures
    (ends-told c.args.job.now c.args.ktx.now c.args.images c.in-Ok.audit.images.items
    c.in-Ok.audit.error c.in-Ok.audit.bad c.in-Ok.ensures.audited c.in-Ok.ensures.error
    c.in-Ok.ensures.bad _ _ _ _
    (rw c.deref.ensures.value at c.in-Ok-report_audit.ensures.tells))

pub returns-in-Ok-clause-ends : goal.returns-in-Ok-clause-ends
returns-in-Ok-clause-ends g c =
    rw c.after_report.ensures
    (ends-stopped c.args.job.now c.args.ktx.now c.args.images c.in-Ok.audit.images.items
    c.in-Ok.audit.error c.in-Ok.audit.bad c.in-Ok.ensures.audited c.in-Ok.ensures.error
    c.in-Ok.ensures.bad _ _ _ _
    c.in-Err-report_audit.stop (rw c.deref.ensures.value at c.in-Err-report_audit.ensures.tells))
