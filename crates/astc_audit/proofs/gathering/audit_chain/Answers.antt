use Rattle.std.proofs.Common.{ap, ◌∙◌}
use Rattle.astc_audit.proofs.ImageLaws.{chain-has}
use Rattle.astc_audit.proofs.gathering.audit_chain.Goals as goal

pub audit_named-requires : goal.audit_named-requires
audit_named-requires c =
    chain-has c.args.ktx.now.shape c.args.images c.deref.result.now c.shape.result.levels
    (c.deref.ensures.value ∙ c.in_ok-levels.ensures.levels)
    (ap (λ s. s.levels) c.shape.ensures.same) c.requires
