use Rattle.std.proofs.Common.{◌≤◌, ◌*◌, ◌^◌}
use Rattle.astc_audit.specs.Audits.{AreJudged}
use Rattle.astc_audit.proofs.findings.judge_blocks.Given as goal

abbrev pub invariant-loop-k : goal.invariant-loop-k
invariant-loop-k g l = record {
  judged : AreJudged g.row.W g.row.H l.encoder.flavour l.encoder.weights l.encoder.preset l.images
      l.image l.columns l.blocks l.k l.findings;
  small : l.findings.error ≤ l.k * 2 ^ 32;
  few : l.findings.bad ≤ l.k;
}
