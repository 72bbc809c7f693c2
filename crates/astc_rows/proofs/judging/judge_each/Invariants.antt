use Rattle.std.proofs.Common.{◌*◌, ◌^◌, ◌≤◌}
use Rattle.astc_rows.specs.Judging.{AreRowsJudged}
use Rattle.astc_rows.proofs.judging.judge_each.Given as goal

abbrev pub invariant-loop-k : goal.invariant-loop-k
invariant-loop-k g l = record {
  judged : AreRowsJudged g.row.W g.row.H l.fn.band l.way l.texels l.k l.blocks l.findings;
  small : l.findings.error ≤ l.k * 2 ^ 32;
  few : l.findings.bad ≤ l.k;
}
