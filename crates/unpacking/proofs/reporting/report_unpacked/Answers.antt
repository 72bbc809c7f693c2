use Rattle.std.proofs.Common.{◌≡◌, ℕ, ◌+◌, ◌∷◌, ◌++◌, List, [], map, take, drop, ap, sym, ◌∙◌, subst, arith, rules}
use Rattle.std.specs.Prelude.{sum_by}
use Rattle.std.proofs.Math.Seq.{take_all}
use Rattle.tex_shelf.specs.Files.{with_text}
use Rattle.outcomes.specs.Causes.{Tells, IsPartlyTold, text_of}
use Rattle.outcomes.proofs.TellLaws.{told-none, told-more, told-front, lines-more, lines-around, summed-more, stopped-told, tells-error, tells-last}
use Rattle.unpacking.specs.Reports.{image_line, total_line, report_lines}
use Rattle.unpacking.proofs.reporting.report_unpacked.Goals as goal

pub loop-k-init : goal.loop-k-init
loop-k-init g c = record {
  written = told-none (g.R.Report.written c.args.report.now);
  faults = omega arith;
  blocks = search rules;
  illegal = search rules;
  some_blocks = omega arith;
  some_illegal = omega arith;
}

pub returns-in_default-clause-tells : goal.returns-in_default-clause-tells
returns-in_default-clause-tells g c =
    told-front _ _ (report_lines c.args.images.now)
    (map image_line (take c.loop-k.k c.args.images.now)) _
    (lines-around image_line c.args.images.now _ c.loop-k.k) c.loop-k.invariant.written

pub returns-in_err-put-clause-tells : goal.returns-in_err-put-clause-tells
returns-in_err-put-clause-tells g c =
    tells-error c.from_residual.result _ _ (report_lines c.args.images.now) _ _
    c.in_err-put.field-0.0 c.from_residual.ensures.1
    (stopped-told (IsPartlyTold (g.R.Report.written c.args.report.now)
    (g.R.Report.written c.put.new.self) (report_lines c.args.images.now)) _ _ _
    c.in_err-put.field-0.0 c.loop-k.invariant.faults
    (told-front _ _ (report_lines c.args.images.now)
    (map image_line (take c.loop-k.k c.args.images.now)) _
    (lines-around image_line c.args.images.now _ c.loop-k.k) (c.in_err-put.ensures.refused
    ∙ c.loop-k.invariant.written))
    c.in_err-put.ensures.counts.failed)

pub loop-k-preserved : goal.loop-k-preserved
loop-k-preserved g c = record {
  written = told-more _ _ _ (map image_line (take c.loop-k.k c.args.images.now)) c.as_str.result.now
      c.loop-k.invariant.written c.in_ok-put.ensures.appended
      ∙ ap (λ line. with_text (g.R.Report.written c.args.report.now)
      (text_of (map image_line (take c.loop-k.k c.args.images.now) ++ line ∷ [])))
      (c.as_str.ensures.value ∙ c.in-Ok.ensures)
      ∙ ap (λ lines. with_text (g.R.Report.written c.args.report.now) (text_of lines))
      (sym (lines-more image_line c.args.images.now c.loop-k.k _ c.loop-k-test.true));
  faults = omega (arith, c.loop-k.invariant.faults, c.in_ok-put.ensures.counts.never_falls);
  blocks = ap (λ n. n + c.counts-counted.result.0) c.loop-k.invariant.blocks
      ∙ ap (λ n. sum_by (λ image. image.blocks) (take c.loop-k.k c.args.images.now) + n)
      c.counts-counted.ensures.blocks
      ∙ sym (summed-more (λ image. image.blocks) c.args.images.now c.loop-k.k _ c.loop-k-test.true);
  illegal = ap (λ n. n + c.counts-counted.result.1) c.loop-k.invariant.illegal
      ∙ ap (λ n. sum_by (λ image. image.illegal) (take c.loop-k.k c.args.images.now) + n)
      c.counts-counted.ensures.illegal
      ∙ sym (summed-more (λ image. image.illegal) c.args.images.now c.loop-k.k _
      c.loop-k-test.true);
  some_blocks = omega (arith, c.loop-k.invariant.some_blocks, c.counts-counted.ensures.some_blocks);
  some_illegal = omega (
    arith,
    c.loop-k.invariant.some_illegal,
    c.counts-counted.ensures.some_illegal,
  );
}

pub returns-clause-tells : goal.returns-clause-tells
returns-clause-tells g c =
    let images = c.args.images.now in
    let all : take c.loop-k.k images ≡ images = take_all c.loop-k.k images c.loop-k-test.false in
    let line : c.as_str-2.result.now ≡ total_line (sum_by (λ image. image.blocks) images)
    (sum_by (λ image. image.illegal) images) =
    c.as_str-2.ensures.value ∙ c.in-Ok-total_line.ensures
    ∙ ap (λ n. total_line n c.loop-k.illegal) (c.loop-k.invariant.blocks
    ∙ ap (sum_by (λ image. image.blocks)) all)
    ∙ ap (λ n. total_line (sum_by (λ image. image.blocks) images) n) (c.loop-k.invariant.illegal
    ∙ ap (sum_by (λ image. image.illegal)) all)
    in
    subst (λ lines. Tells (g.R.Report.written c.args.report.now)
    (g.R.Report.written c.put-2.new.self) lines (g.R.Report.faults c.args.report.now)
    (g.R.Report.faults c.put-2.new.self) c.put-2.result)
    (ap (λ xs. map image_line xs ++ c.as_str-2.result.now ∷ []) all
    ∙ ap (λ x. map image_line images ++ x ∷ []) line)
    (tells-last c.put-2.result _ _ _ (map image_line (take c.loop-k.k images)) c.as_str-2.result.now
    _ _ _ c.loop-k.invariant.faults c.loop-k.invariant.written
    c.put-2.ensures.appended c.put-2.ensures.refused c.put-2.ensures.counts.failed)
