use Rattle.std.proofs.Common.{[], ◌∷◌, ◌++◌, length, refl}
use Rattle.outcomes.proofs.EndLaws.{end-done, end-told, end-stored}
use Rattle.exchange.specs.Reports.{blocks_line}
use Rattle.exchange.specs.Exports.{Exports, BeginsExport}
use Rattle.exchange.proofs.ExportLaws.{exports-of}
use Rattle.exchange.proofs.export.write_image.Given.{Over}
use Rattle.exchange.proofs.export.write_image.Goals as goal
use Rattle.exchange.proofs.export.write_image.Goals.{After-as_flattened}

made : (g : Over) (c : After-as_flattened g) → Exports c.args.job.now c.args.ktx.now
    (c.astc_header-header.result ++ (c.as_flattened.result.now ++ []))
    (blocks_line (length c.exported_blocks-blocks.result.now) ∷ [])
made g c =
    exports-of c.args.job.now c.args.ktx.now c.astc_header-header.result c.as_flattened.result.now
    c.exported_blocks-blocks.result.now _
    (rw (c.side_at_level-width.ensures, c.side_at_level-height.ensures, c.shape-shape.ensures.same)
    at c.astc_header-header.ensures)
    c.exported_blocks-blocks.ensures.blocks c.as_flattened.ensures.value
    c.exported_blocks-blocks.ensures.count

pub returns-in-Ok-report_blocks-clause-ends : goal.returns-in-Ok-report_blocks-clause-ends
returns-in-Ok-report_blocks-clause-ends g c =
    let m = made g (goal.at.returns-in-Ok-report_blocks-clause-ends g c).After-as_flattened in
    end-done (Exports c.args.job.now) (BeginsExport c.args.job.now) c.args.ktx.now c.args.output.now
    _ _ _ _ m (λ k. m.image) c.in-Ok.ensures.stores c.in-Ok.ensures.target
    c.in-Ok-report_blocks.ensures.tells

pub returns-in-Err-report_blocks-clause-ends : goal.returns-in-Err-report_blocks-clause-ends
returns-in-Err-report_blocks-clause-ends g c =
    let m = made g (goal.at.returns-in-Err-report_blocks-clause-ends g c).After-as_flattened in
    rw c.after_report.ensures
    (end-told (Exports c.args.job.now) (BeginsExport c.args.job.now) c.args.ktx.now
    c.args.output.now _ _ _ _ m (λ k. m.image) c.in-Err-report_blocks.stop
    c.in-Ok.ensures.stores c.in-Ok.ensures.target c.in-Err-report_blocks.ensures.tells)

pub returns-in-Err-clause-ends : goal.returns-in-Err-clause-ends
returns-in-Err-clause-ends g c =
    let m = made g (goal.at.returns-in-Err-clause-ends g c).After-as_flattened in
    rw c.after_write.ensures
    (end-stored (Exports c.args.job.now) (BeginsExport c.args.job.now) c.args.ktx.now
    c.args.output.now _ _ _ _ m (λ k. m.image) c.in-Err.stop refl c.in-Err.ensures.stores)
