use Rattle.std.proofs.Common.{◌∙◌, ◌-◌, ◌+◌, ◌*◌, ◌++◌, ℕ, ap, refl, arith, rules, Err}
use Rattle.std.proofs.lemmas.Result.{err_from_is_err_and}
use Rattle.pam_image.proofs.WideningLaws.{grown_on}
use Rattle.pam_image.proofs.SayLaws.{exit_to}
use Rattle.pam_image.proofs.LoopLaws.{reaches_on, reaches_fails, reaches_end, early_of}
use Rattle.pam_image.proofs.series.read_all_later.Goals as goal

pub loop-image-preserved : goal.loop-image-preserved
loop-image-preserved g c = record {
  grown = grown_on (c.args.width * c.args.height) c.loop-image.image _ _ _
      (omega arith) c.loop-image.invariant.grown c.in_ok-ahead.ensures.grown;
  short = c.in_ok-ahead.ensures.ahead;
  reads = λ bytes e.
      let r = c.loop-image.invariant.reads bytes e in
      let m = c.in_ok-ahead.ensures.reads r.0 (rw c.deref.ensures.value r.2.left_is) in
      reaches_on c.args.width c.args.height (c.args.count - 1) bytes c.args.texels.now.items
      c.loop-image.image (c.args.count - c.loop-image.image)
      (c.args.count - (c.loop-image.image + 1))
      _ _ r.0 r.1 r.2 (omega arith) (c.in_ok-ahead.ahead.items ++ m.0) m.2.0
      (rw c.from.ensures at m.2.1) _ _ (rw m.1 refl) m.2.2;
  outside = search rules;
}

pub returns-in_err-ahead-clause-reads : goal.returns-in_err-ahead-clause-reads
returns-in_err-ahead-clause-reads g c = λ bytes e.
    let r = c.loop-image.invariant.reads bytes e in
    exit_to _ _ _ c.from_residual.result c.in_err-ahead.field-0.0 c.from_residual.ensures.1
    (reaches_fails c.args.width c.args.height (c.args.count - 1) bytes c.args.texels.now.items
    c.loop-image.image (c.args.count - c.loop-image.image)
    (c.args.count - (c.loop-image.image + 1))
    _ _ r.0 r.1 c.in_err-ahead.field-0.0 r.2 (omega arith)
    (rw c.from.ensures at (c.in_err-ahead.ensures.reads r.0
    (rw c.deref.ensures.value r.2.left_is))))

pub returns-in_err-ahead-clause-early : goal.returns-in_err-ahead-clause-early
returns-in_err-ahead-clause-early g c = λ bytes whole e start rest f.
    let r = c.loop-image.invariant.reads bytes e in
    let p = err_from_is_err_and c.from_residual.result c.from_residual.ensures.1 in
    early_of ℕ c.loop-image.image c.from.result whole r.0 rest c.from_residual.result
    c.in_err-ahead.field-0.0 c.from.ensures (r.2.place whole start)
    (c.in_err-ahead.ensures.early r.0 (rw c.deref.ensures.value r.2.left_is) rest f)
    c.in_err-ahead.ensures.image (p.1 ∙ ap Err p.2)

pub returns-clause-reads : goal.returns-clause-reads
returns-clause-reads g c = λ bytes e.
    let r = c.loop-image.invariant.reads bytes e in
    reaches_end c.args.width c.args.height (c.args.count - 1) bytes c.args.texels.now.items
    c.loop-image.image (c.args.count - c.loop-image.image)
    _ _ _ r.0 r.1 c.end.result r.2 (omega arith)
    (c.end.ensures.reads r.0 (rw c.deref-2.ensures.value r.2.left_is))
