use Rattle.std.proofs.Common.{refl, ap, ◌∙◌}
use Rattle.ktx_file.specs.Files.{ktx_of}
use Rattle.outcomes.specs.Outcomes.{ktx_fault_of, report_outcome}
use Rattle.outcomes.specs.Scenes.{scene}
use Rattle.outcomes.specs.Ends.{EndsAfterReading}
use Rattle.outcomes.specs.declared.outcome.Outcome.TheVariants.{Done}
use Rattle.outcomes.proofs.EndLaws.{complete, after-reading, reads-ends, end-done, end-told}
use Rattle.unpacking.specs.Reports.{report_lines}
use Rattle.unpacking.specs.Unpacked.{Unpacks, BeginsUnpack, unpacked}
use Rattle.unpacking.proofs.unpack.unpack_file.Goals as goal

pub returns-in-Ok-report_unpacked-clause-ends : goal.returns-in-Ok-report_unpacked-clause-ends
returns-in-Ok-report_unpacked-clause-ends g c =
    let ends : EndsAfterReading Unpacks BeginsUnpack c.in-Ok.ktx c.args.output.now
    (scene g.S.Shelf g.R.Report c.load_ktx.new.shelf c.args.report.now)
    (scene g.S.Shelf g.R.Report c.store.new.shelf c.report_unpacked.new.report) Done =
    end-done Unpacks BeginsUnpack c.in-Ok.ktx c.args.output.now (unpacked c.in-Ok.ktx)
    (report_lines c.deref.result.now) _ _
    (record {
      images = refl;
      told = ap report_lines (c.deref.ensures.value ∙ c.in-Ok-store.ensures.told);
    })
    (λ k. refl)
    c.in-Ok-store.ensures.stores c.in-Ok-store.ensures.target c.in-Ok-report_unpacked.ensures.tells
    in
    complete ktx_of Unpacks BeginsUnpack c.args.input.now c.args.output.now _ _ ktx_fault_of Done
    (reads-ends ktx_of ktx_fault_of refl refl refl refl Unpacks BeginsUnpack c.in-Ok.ktx
    c.args.input.now c.args.output.now _ _ Done c.in-Ok.ensures.loads
    (after-reading Unpacks BeginsUnpack c.in-Ok.ktx c.args.output.now _ _ _ Done
    (rw (
      c.load_ktx.ensures.rest.files,
      c.load_ktx.ensures.rest.target,
      c.load_ktx.ensures.rest.write_faults,
    ) at ends)))

pub returns-in-Ok-store-clause-ends : goal.returns-in-Ok-store-clause-ends
returns-in-Ok-store-clause-ends g c =
    let ends : EndsAfterReading Unpacks BeginsUnpack c.in-Ok.ktx c.args.output.now
    (scene g.S.Shelf g.R.Report c.load_ktx.new.shelf c.args.report.now)
    (scene g.S.Shelf g.R.Report c.store.new.shelf c.report_unpacked.new.report)
    (report_outcome c.in-Err-report_unpacked.stop) =
    end-told Unpacks BeginsUnpack c.in-Ok.ktx c.args.output.now (unpacked c.in-Ok.ktx)
    (report_lines c.deref.result.now) _ _
    (record {
      images = refl;
      told = ap report_lines (c.deref.ensures.value ∙ c.in-Ok-store.ensures.told);
    })
    (λ k. refl)
    c.in-Err-report_unpacked.stop c.in-Ok-store.ensures.stores c.in-Ok-store.ensures.target
    c.in-Err-report_unpacked.ensures.tells
    in
    rw c.after_report.ensures
    (complete ktx_of Unpacks BeginsUnpack c.args.input.now c.args.output.now _ _ ktx_fault_of
    (report_outcome c.in-Err-report_unpacked.stop)
    (reads-ends ktx_of ktx_fault_of refl refl refl refl Unpacks BeginsUnpack c.in-Ok.ktx
    c.args.input.now c.args.output.now _ _ (report_outcome c.in-Err-report_unpacked.stop)
    c.in-Ok.ensures.loads
    (after-reading Unpacks BeginsUnpack c.in-Ok.ktx c.args.output.now _ _ _
    (report_outcome c.in-Err-report_unpacked.stop)
    (rw (
      c.load_ktx.ensures.rest.files,
      c.load_ktx.ensures.rest.target,
      c.load_ktx.ensures.rest.write_faults,
    ) at ends))))
