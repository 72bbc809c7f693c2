use Rattle.std.proofs.Common.{◌+◌, refl, arith, ap}
use Rattle.astc_audit.proofs.ImageLaws.{judged-none, judged-more}
use Rattle.astc_audit.proofs.findings.judge_blocks.Goals as goal

pub loop-k-init : goal.loop-k-init
loop-k-init g c = record {
  judged = judged-none g.row.W g.row.H c.args.encoder.now.flavour c.args.encoder.now.weights
      c.args.encoder.now.preset c.args.images.now c.args.image c.args.columns c.args.blocks.now;
  small = omega arith;
  few = omega arith;
}

pub loop-k-preserved : goal.loop-k-preserved
loop-k-preserved g c = record {
  judged = judged-more g.row.W g.row.H c.args.encoder.now.flavour c.args.encoder.now.weights
      c.args.encoder.now.preset c.args.images.now c.args.image c.args.columns c.args.blocks.now
      c.loop-k.k c.judge-error.result.0 c.judge-error.result.1 c.loop-k.findings _
      c.loop-k.invariant.judged
      (rw c.source_at-source.ensures at c.judge-error.ensures.error)
      (rw c.source_at-source.ensures at c.judge-error.ensures.bad) refl
      (ap (λ e. c.loop-k.findings.error + e) c.from.ensures) refl;
  small = omega (arith, c.loop-k.invariant.small, c.from.ensures);
  few = omega (arith, c.loop-k.invariant.few, c.judge-error.ensures.one);
}
