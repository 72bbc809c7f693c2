use Rattle.std.proofs.Common.{◌≡◌, ◌++◌, [], ◌∷◌, length, refl, ap, ◌∙◌}
use Rattle.std.specs.Int.{w32, to_le_bytes}
use Rattle.ktx_file.specs.Framing.{header_of, level_size_of}
use Rattle.outcomes.proofs.EndLaws.{end-done, end-told, end-stored}
use Rattle.exchange.specs.Reports.{blocks_line}
use Rattle.exchange.specs.Imports.{Imports, BeginsImport, shape_of}
use Rattle.exchange.proofs.ImportLaws.{imports-of}
use Rattle.exchange.proofs.import.write_texture.Given.{Over}
use Rattle.exchange.proofs.import.write_texture.Goals as goal
use Rattle.exchange.proofs.import.write_texture.Goals.{After-as_flattened}

made : (g : Over) (c : After-as_flattened g) → Imports c.args.flavour c.args.image.now
    (c.header-header.result ++ (c.to_le_bytes-size.result ++ (c.as_flattened.result.now ++ [])))
    (blocks_line (length c.blocks-blocks.result.now) ∷ [])
made g c =
    let shape : c.shape-shape.result ≡ shape_of c.args.flavour c.args.image.now =
    c.shape-shape.ensures.same ∙ c.layout_of.ensures in
    imports-of c.args.flavour c.args.image.now c.header-header.result c.to_le_bytes-size.result
    c.as_flattened.result.now c.blocks-blocks.result.now c.blocks-blocks.ensures.valid
    (c.header-header.ensures ∙ ap header_of shape) (c.to_le_bytes-size.ensures
    ∙ ap (to_le_bytes w32) (c.level_size.ensures ∙ ap (λ s. level_size_of s 0) shape))
    c.blocks-blocks.ensures.same c.as_flattened.ensures.value

pub returns-in-Ok-report_blocks-clause-ends : goal.returns-in-Ok-report_blocks-clause-ends
returns-in-Ok-report_blocks-clause-ends g c =
    let m = made g (goal.at.returns-in-Ok-report_blocks-clause-ends g c).After-as_flattened in
    end-done (Imports c.args.flavour) (BeginsImport c.args.flavour) c.args.image.now
    c.args.output.now _ _ _ _ m (λ k. m.framed) c.in-Ok.ensures.stores c.in-Ok.ensures.target
    c.in-Ok-report_blocks.ensures.tells

pub returns-in-Err-report_blocks-clause-ends : goal.returns-in-Err-report_blocks-clause-ends
returns-in-Err-report_blocks-clause-ends g c =
    let m = made g (goal.at.returns-in-Err-report_blocks-clause-ends g c).After-as_flattened in
    rw c.after_report.ensures
    (end-told (Imports c.args.flavour) (BeginsImport c.args.flavour) c.args.image.now
    c.args.output.now _ _ _ _ m (λ k. m.framed) c.in-Err-report_blocks.stop
    c.in-Ok.ensures.stores c.in-Ok.ensures.target c.in-Err-report_blocks.ensures.tells)

pub returns-in-Err-clause-ends : goal.returns-in-Err-clause-ends
returns-in-Err-clause-ends g c =
    let m = made g (goal.at.returns-in-Err-clause-ends g c).After-as_flattened in
    rw c.after_write.ensures
    (end-stored (Imports c.args.flavour) (BeginsImport c.args.flavour) c.args.image.now
    c.args.output.now _ _ _ _ m (λ k. m.framed) c.in-Err.stop refl c.in-Err.ensures.stores)
