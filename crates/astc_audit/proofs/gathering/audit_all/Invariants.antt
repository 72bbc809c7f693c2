use Rattle.std.proofs.Common.{◌≡◌, ◌≤◌, ◌*◌, ◌^◌}
use Rattle.astc_model.specs.Limits.{most_texels}
use Rattle.texture.specs.Shapes.{image_count}
use Rattle.astc_audit.specs.Audits.{AreAudited}
use Rattle.astc_audit.specs.Reports.{error_in, bad_in}
use Rattle.astc_audit.proofs.gathering.audit_all.Given as goal

abbrev pub invariant-loop-i : goal.invariant-loop-i
invariant-loop-i g l = record {
  audited : AreAudited l.ktx l.levels l.job.preset l.job.weights l.i l.images.items;
  error : l.error ≡ error_in l.images.items;
  bad : l.bad ≡ bad_in l.images.items;
  small : image_count l.ktx.shape * l.error ≤ l.i * (most_texels * 2 ^ 32);
  few : l.bad ≤ l.i * 2 ^ 32;
}
