use Rattle.std.proofs.Common.{◌≡◌, ℕ, ◌∷◌, ◌++◌, List, [], map, take, ap, sym, ◌∙◌, subst, arith}
use Rattle.std.proofs.Math.Seq.{take_all}
use Rattle.tex_shelf.specs.Files.{with_text}
use Rattle.outcomes.specs.Causes.{Tells, IsPartlyTold, text_of}
use Rattle.outcomes.proofs.TellLaws.{told-none, told-more, told-front, lines-more, lines-around, stopped-told, tells-error, tells-last}
use Rattle.astc_audit.specs.Reports.{image_line, total_line}
use Rattle.astc_audit.proofs.reporting.report_audit.Goals as goal

pub loop-k-init : goal.loop-k-init
loop-k-init g c = record {
  written = told-none (g.R.Report.written c.args.report.now);
  faults = omega arith;
}

pub returns-in_default-clause-tells : goal.returns-in_default-clause-tells
returns-in_default-clause-tells g c =
    told-front _ _ (map image_line c.args.images.now ++ total_line c.args.error c.args.bad ∷ [])
    (map image_line (take c.loop-k.k c.args.images.now)) _
    (lines-around image_line c.args.images.now _ c.loop-k.k) c.loop-k.invariant.written

pub returns-in_err-put-clause-tells : goal.returns-in_err-put-clause-tells
returns-in_err-put-clause-tells g c =
    let lines : List (List ℕ) = map image_line c.args.images.now
    ++ total_line c.args.error c.args.bad ∷ [] in
    tells-error c.from_residual.result _ _ lines _ _ c.in_err-put.field-0.0
    c.from_residual.ensures.1
    (stopped-told (IsPartlyTold (g.R.Report.written c.args.report.now)
    (g.R.Report.written c.put.new.self) lines) _ _ _ c.in_err-put.field-0.0
    c.loop-k.invariant.faults
    (told-front _ _ lines (map image_line (take c.loop-k.k c.args.images.now)) _
    (lines-around image_line c.args.images.now _ c.loop-k.k) (c.in_err-put.ensures.refused
    ∙ c.loop-k.invariant.written))
    c.in_err-put.ensures.counts.failed)

pub loop-k-preserved : goal.loop-k-preserved
loop-k-preserved g c = record {
  written = told-more _ _ _ (map image_line (take c.loop-k.k c.args.images.now)) c.as_str.result.now
      c.loop-k.invariant.written c.in_ok-put.ensures.appended
      ∙ ap (λ line. with_text (g.R.Report.written c.args.report.now)
      (text_of (map image_line (take c.loop-k.k c.args.images.now) ++ line ∷ [])))
      (c.as_str.ensures.value ∙ c.in-Ok.ensures)
      ∙ ap (λ lines. with_text (g.R.Report.written c.args.report.now) (text_of lines))
      (sym (lines-more image_line c.args.images.now c.loop-k.k _ c.loop-k-test.true));
  faults = omega (arith, c.loop-k.invariant.faults, c.in_ok-put.ensures.counts.never_falls);
}

pub returns-clause-tells : goal.returns-clause-tells
returns-clause-tells g c =
    let images = c.args.images.now in
    let all : take c.loop-k.k images ≡ images = take_all c.loop-k.k images c.loop-k-test.false in
    let line : c.as_str-2.result.now ≡ total_line c.args.error c.args.bad = c.as_str-2.ensures.value
    ∙ c.in-Ok-total_line.ensures in
    subst (λ lines. Tells (g.R.Report.written c.args.report.now)
    (g.R.Report.written c.put-2.new.self) lines (g.R.Report.faults c.args.report.now)
    (g.R.Report.faults c.put-2.new.self) c.put-2.result)
    (ap (λ xs. map image_line xs ++ c.as_str-2.result.now ∷ []) all
    ∙ ap (λ x. map image_line images ++ x ∷ []) line)
    (tells-last c.put-2.result _ _ _ (map image_line (take c.loop-k.k images)) c.as_str-2.result.now
    _ _ _ c.loop-k.invariant.faults c.loop-k.invariant.written
    c.put-2.ensures.appended c.put-2.ensures.refused c.put-2.ensures.counts.failed)
