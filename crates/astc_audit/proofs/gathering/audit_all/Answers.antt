use Rattle.std.proofs.Common.{◌≡◌, ◌+◌, ◌*◌, ◌^◌, ◌<◌, refl, sym, ap, ◌∙◌, subst, arith}
use Rattle.std.proofs.lemmas.List.Sums.{sum_by_push}
use Rattle.astc_model.specs.Limits.{most_texels}
use Rattle.images.specs.Pictures.{Pictures}
use Rattle.texture.specs.Shapes.{image_count}
use Rattle.std.specs.Prelude.{slice_index_or}
use Rattle.astc_audit.specs.declared.gathering.AuditedImage.{AuditedImage}
use Rattle.astc_audit.specs.Audits.{place_in, IsAudited, AreAudited, all_images}
use Rattle.astc_audit.specs.Reports.{bad_in}
use Rattle.astc_audit.proofs.ImageLaws.{audited-none, audited-more, error-more, error-fits}
use Rattle.astc_audit.proofs.gathering.audit_all.Goals as goal

pub loop-i-init : goal.loop-i-init
loop-i-init g c = record {
  audited = rw c.new-images.ensures.items
      (audited-none c.args.ktx.now c.args.levels.now c.args.job.now.preset c.args.job.now.weights);
  error = rw c.new-images.ensures.items refl;
  bad = rw c.new-images.ensures.items refl;
  small = omega arith;
  few = omega arith;
}

pub overflow_add-error : goal.overflow_add-error
overflow_add-error g c =
    let count : c.image_count-count.result ≡ image_count c.args.ktx.now.shape =
    c.image_count-count.ensures.exact ∙ ap image_count c.layout-layout.ensures in
    let fits : c.loop-i.error + c.judge_image-findings.result.error < 2 ^ 64 =
    error-fits (image_count c.args.ktx.now.shape) c.loop-i.error c.judge_image-findings.result.error
    c.loop-i.i c.levels.result (most_texels * 2 ^ 32)
    (rw count at c.image_count-count.ensures.some) c.loop-i.invariant.small
    c.judge_image-findings.ensures.small (rw count at c.loop-i-test.true) c.levels.ensures.few
    (omega arith)
    in
    omega (arith, fits)

pub loop-i-preserved : goal.loop-i-preserved
loop-i-preserved g c =
    let file = c.args.ktx.now in
    let images = c.loop-i.images.items in
    let image : AuditedImage =
    record { place = c.image_place-place.result; findings = c.judge_image-findings.result } in
    let there : c.image_place-place.result ≡ place_in file c.loop-i.i =
    rw (c.image_count-count.ensures.exact, c.layout-layout.ensures)
    at c.image_place-place.ensures.exact in
    let audited = rw (c.new-encoder.ensures, c.settings_for.ensures)
    at c.judge_image-findings.ensures.audited in
    record {
      audited = rw c.in_ok-push.ensures.items
          (audited-more file c.args.levels.now c.args.job.now.preset c.args.job.now.weights
          c.loop-i.i images image c.loop-i.invariant.audited (record {
            place = there;
            findings = subst (λ p. (d : Pictures)
                → IsAudited file (slice_index_or c.args.levels.now p.level d) c.args.job.now.preset
                c.args.job.now.weights p image.findings) there audited;
          }));
      error = rw c.in_ok-push.ensures.items
          (ap (λ e. e + image.findings.error) c.loop-i.invariant.error
          ∙ sym (sum_by_push (λ x. x.findings.error) images image));
      bad = rw c.in_ok-push.ensures.items (ap (λ e. e + c.from-bad.result) c.loop-i.invariant.bad
          ∙ ap (λ k. bad_in images + k) c.from-bad.ensures
          ∙ sym (sum_by_push (λ x. x.findings.bad) images image));
      small = error-more (image_count file.shape) c.loop-i.error image.findings.error c.loop-i.i
          (most_texels * 2 ^ 32) c.loop-i.invariant.small c.judge_image-findings.ensures.small;
      few = omega (arith, c.loop-i.invariant.few, c.from-bad.ensures);
    }

pub returns-clause-audited : goal.returns-clause-audited
returns-clause-audited g c =
    let file = c.args.ktx.now in
    let ended : c.loop-i.i ≡ c.levels.result * c.image_count-count.result =
    omega (arith, c.loop-i-test.false, c.loop-i.auto.i-end) in
    let all : c.loop-i.i ≡ all_images file =
    rw (c.levels.ensures.exact, c.image_count-count.ensures.exact, c.layout-layout.ensures)
    at ended in
    subst (λ k. AreAudited file c.args.levels.now c.args.job.now.preset c.args.job.now.weights k
    c.loop-i.images.items) all c.loop-i.invariant.audited
