use Rattle.astc_audit.proofs.findings.judge_image_alone.Goals as goal

pub returns : goal.returns
returns g c = rw (c.new-encoder.ensures, c.settings_for.ensures) at c.judge_image.ensures.audited
