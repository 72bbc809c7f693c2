use Rattle.std.proofs.Common.{refl}
use Rattle.outcomes.specs.Outcomes.{image_fault_of}
use Rattle.pam_image.specs.Reading.{images_of}
use Rattle.outcomes.proofs.EndLaws.{complete, after-reading, reads-ends}
use Rattle.packing.specs.Packed.{want_of}
use Rattle.parting.specs.Parts.{MakesPart, BeginsPart}
use Rattle.parting.proofs.part.pack_part.Goals as goal

pub returns-in-Ok-clause-ends : goal.returns-in-Ok-clause-ends
returns-in-Ok-clause-ends g c =
    let job = c.args.job.now in
    complete (images_of (want_of job.pack)) (MakesPart job)
    (BeginsPart job) c.args.input.now c.args.output.now _ _ image_fault_of c.pack_images.result
    (reads-ends (images_of (want_of job.pack)) image_fault_of refl refl refl refl (MakesPart job)
    (BeginsPart job) c.in-Ok.images c.args.input.now c.args.output.now _ _
    c.pack_images.result
    (rw c.want_of.ensures.exact at c.in-Ok.ensures.loads)
    (after-reading (MakesPart job) (BeginsPart job) c.in-Ok.images c.args.output.now _ _ _
    c.pack_images.result
    (rw (
      c.load_images.ensures.rest.files,
      c.load_images.ensures.rest.target,
      c.load_images.ensures.rest.write_faults,
    ) at c.pack_images.ensures.ends)))
