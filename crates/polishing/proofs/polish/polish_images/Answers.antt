use Rattle.std.proofs.Common.{◌∙◌, subst}
use Rattle.texture.specs.Shapes.{IsValid}
use Rattle.outcomes.proofs.EndLaws.{ends-read_as}
use Rattle.packed_levels.specs.Framing.{FramesTexture, BeginsTexture}
use Rattle.polishing.specs.Polished.{Inputs, Polishes, BeginsPolish}
use Rattle.polishing.specs.Steps.{Blocks, inputs_of, blocks_of}
use Rattle.polishing.proofs.PolishLaws.{polishes-of, begins-of}
use Rattle.polishing.proofs.polish.polish_images.Goals as goal

pub write_texture-requires-clause-full : goal.write_texture-requires-clause-full
write_texture-requires-clause-full g c =
    rw (c.deref.ensures.value, c.layout-layout.ensures) c.in-Ok.ensures.full

pub write_texture-requires-clause-errors : goal.write_texture-requires-clause-errors
write_texture-requires-clause-errors g c =
    rw (c.deref.ensures.value, c.deref-in-Ok.ensures.value) c.in-Ok.ensures.settled.errors_full

pub returns-in-Ok-clause-ends : goal.returns-in-Ok-clause-ends
returns-in-Ok-clause-ends g c =
    let job = c.args.job.now in
    let inputs : Inputs = inputs_of c.args.ktx.now c.args.images in
    let done : Blocks = blocks_of c.in-Ok.done.blocks.items c.in-Ok.done.errors.items in
    let shape = inputs.texture.shape in
    let valid : IsValid shape =
    subst IsValid (c.shape.ensures.same ∙ c.layout-layout.ensures) c.shape.ensures.valid in
    let ends = rw (c.layout-layout.ensures, c.deref.ensures.value, c.deref-in-Ok.ensures.value)
    at c.write_texture.ensures.ends in
    ends-read_as (FramesTexture shape done.blocks) (BeginsTexture shape done.blocks) (Polishes job)
    (BeginsPolish job) done.errors inputs c.args.output.now _ _ c.write_texture.result
    (polishes-of job inputs done valid c.in-Ok.ensures)
    (begins-of job inputs done valid c.in-Ok.ensures) ends
