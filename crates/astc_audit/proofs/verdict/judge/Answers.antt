use Rattle.std.proofs.Common.{ap, ◌∙◌}
use mir.Val.{bool_byte}
use Rattle.astc_audit.proofs.VerdictLaws.{counted}
use Rattle.astc_audit.proofs.verdict.judge.Goals as goal

pub returns-clause-bad : goal.returns-clause-bad
returns-clause-bad g c =
    let encoder = c.args.encoder.now in
    counted g.row.W g.row.H encoder.flavour encoder.weights encoder.preset c.args.source.now
    c.args.bytes.now
    c.verdict-verdict.result c.from.result c.verdict-verdict.ensures.verdict
    (c.from.ensures ∙ ap bool_byte c.is_bad.ensures)
