use Rattle.std.proofs.Common.{Ok}
use Rattle.outcomes.proofs.EndLaws.{after-reading}
use Rattle.polishing.specs.Polished.{Inputs, Polishes, BeginsPolish}
use Rattle.polishing.specs.Steps.{inputs_of, inputs_with}
use Rattle.polishing.proofs.EndLaws.{images-read, ends-read}
use Rattle.polishing.proofs.polish.polish_texture.Goals as goal

pub returns-in-Ok-clause-ends : goal.returns-in-Ok-clause-ends
returns-in-Ok-clause-ends g c =
    let job = c.args.job.now in
    let file = c.args.ktx.now in
    let rest = c.load_images.ensures.rest in
    let inputs : Inputs = inputs_of file c.in-Ok.images in
    ends-read job c.args.output.now (inputs_with file c.args.images.now) inputs _ _
    c.polish_images.result
    (images-read c.args.images.now (g.S.Shelf.files c.args.shelf.now) file (Ok c.in-Ok.images)
    (rw (c.want_of.ensures.exact, c.layout.ensures) at c.in-Ok.ensures.loads))
    (after-reading (Polishes job) (BeginsPolish job) inputs c.args.output.now _ _ _
    c.polish_images.result
    (rw (rest.files, rest.target, rest.write_faults) at c.polish_images.ensures.ends))
