use Rattle.std.proofs.Common.{◌+◌, arith, ap}
use Rattle.astc_rows.proofs.JudgingLaws.{judged-none, judged-more}
use Rattle.astc_rows.proofs.judging.judge_each.Goals as goal

pub loop-k-init : goal.loop-k-init
loop-k-init g c = record {
  judged = judged-none g.row.W g.row.H c.args.band c.args.way.now c.args.texels.now
      c.args.blocks.now;
  small = omega arith;
  few = omega arith;
}

pub loop-k-preserved : goal.loop-k-preserved
loop-k-preserved g c = record {
  judged = judged-more g.row.W g.row.H c.args.band c.args.way.now c.args.texels.now
      c.args.blocks.now c.loop-k.k c.loop-k.findings _ c.verdict_at-verdict.result
      c.loop-k.invariant.judged
      c.verdict_at-verdict.ensures.verdict (ap (λ e. c.loop-k.findings.error + e) c.from.ensures)
      (ap (λ b. c.loop-k.findings.bad + b) c.bad_in.ensures.exact);
  small = omega (
    arith,
    c.loop-k.invariant.small,
    c.from.ensures,
    c.verdict_at-verdict.ensures.small,
  );
  few = omega (arith, c.loop-k.invariant.few, c.bad_in.ensures.one);
}
