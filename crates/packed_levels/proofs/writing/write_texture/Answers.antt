use Rattle.std.proofs.Common.{refl}
use Rattle.ktx_file.specs.Files.{ktx}
use Rattle.outcomes.proofs.EndLaws.{end-done, end-told}
use Rattle.packed_levels.specs.Reports.{range_lines}
use Rattle.packed_levels.specs.Framing.{FramesTexture, BeginsTexture}
use Rattle.packed_levels.proofs.writing.write_texture.Goals as goal

pub returns-in-Ok-report_range-clause-ends : goal.returns-in-Ok-report_range-clause-ends
returns-in-Ok-report_range-clause-ends g c =
    let shape = c.args.layout.now in
    let blocks = c.args.blocks.now in
    let errors = c.args.errors.now in
    let made : FramesTexture shape blocks errors (ktx shape blocks) (range_lines shape 0 errors) =
    record { framed = refl; told = refl } in
    end-done (FramesTexture shape blocks) (BeginsTexture shape blocks) errors c.args.output.now
    (ktx shape blocks) (range_lines shape 0 errors) _ _ made
    (λ k. (range_lines shape 0 errors, made))
    c.in-Ok.ensures.stores c.in-Ok.ensures.target c.in-Ok-report_range.ensures.tells

pub returns-in-Err-report_range-clause-ends : goal.returns-in-Err-report_range-clause-ends
returns-in-Err-report_range-clause-ends g c =
    let shape = c.args.layout.now in
    let blocks = c.args.blocks.now in
    let errors = c.args.errors.now in
    let made : FramesTexture shape blocks errors (ktx shape blocks) (range_lines shape 0 errors) =
    record { framed = refl; told = refl } in
    rw c.after_report.ensures
    (end-told (FramesTexture shape blocks) (BeginsTexture shape blocks) errors c.args.output.now
    (ktx shape blocks) (range_lines shape 0 errors) _ _ made
    (λ k. (range_lines shape 0 errors, made))
    c.in-Err-report_range.stop c.in-Ok.ensures.stores c.in-Ok.ensures.target
    c.in-Err-report_range.ensures.tells)
