use Rattle.std.proofs.Common.{◌≡◌, length}
use Rattle.astc_rows.specs.Alone.{AreEachJudged}
use Rattle.astc_rows.proofs.no_alloc.judge_each_no_alloc.Given as goal

abbrev pub invariant-loop-k : goal.invariant-loop-k
invariant-loop-k g l = record {
  count : length l.judged ≡ length l.initial.judged;
  judged : AreEachJudged g.row.W g.row.H l.fn.band l.way l.texels l.k l.blocks l.judged;
}
