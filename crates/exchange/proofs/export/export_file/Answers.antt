use Rattle.std.proofs.Common.{◌≡◌, Some, None, Ok, Err, refl, sym, ◌∙◌, subst, ap}
use Rattle.ktx_file.specs.Files.{File}
use Rattle.outcomes.proofs.EndLaws.{complete, after-reading, reads-ends}
use Rattle.outcomes.specs.Causes.{InputIs}
use Rattle.outcomes.specs.declared.outcome.Outcome.TheVariants.{Absent}
use Rattle.exchange.specs.Exports.{Exports, BeginsExport, texture_of, export_fault_of, with_image, absent_of, IsAbsent}
use Rattle.exchange.proofs.ExportLaws.{asked, stops-ends}
use Rattle.exchange.proofs.export.export_file.Goals as goal

pub returns-in-None-clause-ends : goal.returns-in-None-clause-ends
returns-in-None-clause-ends g c =
    let job = c.args.job.now in
    let file : File = c.in-Ok.ktx in
    let absent : absent_of job file.shape ≡ None = ap (absent_of job) (sym c.shape.ensures.same)
    ∙ sym c.absent_of.ensures ∙ c.in-None.is in
    let is : InputIs (texture_of job) (g.S.Shelf.files c.args.shelf.now) c.args.input.now
    (Ok file) =
    subst (λ a. InputIs (texture_of job) (g.S.Shelf.files c.args.shelf.now) c.args.input.now
    (with_image file a)) absent
    (asked job (g.S.Shelf.files c.args.shelf.now) c.args.input.now
    (Ok file) c.in-Ok.ensures.loads)
    in
    complete (texture_of job) (Exports job) (BeginsExport job) c.args.input.now c.args.output.now _
    _ export_fault_of c.write_image.result
    (reads-ends (texture_of job) export_fault_of refl refl refl refl (Exports job)
    (BeginsExport job) file c.args.input.now c.args.output.now _ _ c.write_image.result is
    (after-reading (Exports job) (BeginsExport job) file c.args.output.now _ _ _
    c.write_image.result
    (rw (
      c.load_ktx.ensures.rest.files,
      c.load_ktx.ensures.rest.target,
      c.load_ktx.ensures.rest.write_faults,
    ) at c.write_image.ensures.ends)))

pub returns-in-Ok-clause-ends : goal.returns-in-Ok-clause-ends
returns-in-Ok-clause-ends g c =
    let job = c.args.job.now in
    let file : File = c.in-Ok.ktx in
    let absent : absent_of job file.shape ≡ Some c.in-Some.place =
    ap (absent_of job) (sym c.shape.ensures.same) ∙ sym c.absent_of.ensures ∙ c.in-Some.is in
    let is : InputIs (texture_of job) (g.S.Shelf.files c.args.shelf.now) c.args.input.now
    (Err (IsAbsent c.in-Some.place)) =
    subst (λ a. InputIs (texture_of job) (g.S.Shelf.files c.args.shelf.now) c.args.input.now
    (with_image file a)) absent
    (asked job (g.S.Shelf.files c.args.shelf.now) c.args.input.now
    (Ok file) c.in-Ok.ensures.loads)
    in
    complete (texture_of job) (Exports job) (BeginsExport job) c.args.input.now c.args.output.now _
    _ export_fault_of (Absent c.in-Some.place) (
      is,
      record {
        files = c.load_ktx.ensures.rest.files;
        target = c.load_ktx.ensures.rest.target;
        written = refl;
      },
    )

pub returns-clause-ends : goal.returns-clause-ends
returns-clause-ends g c =
    let job = c.args.job.now in
    rw (
      c.from.ensures,
      c.load_ktx.ensures.rest.files,
      c.load_ktx.ensures.rest.target,
      c.load_ktx.ensures.rest.write_faults,
    )
    (complete (texture_of job) (Exports job) (BeginsExport job) c.args.input.now c.args.output.now _
    _ export_fault_of _
    (stops-ends job c.args.input.now c.args.output.now _ _ c.in-Err.stop
    c.in-Err.ensures.loads))
