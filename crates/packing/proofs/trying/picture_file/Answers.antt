use Rattle.std.proofs.Common.{◌∙◌, ap}
use Rattle.images.specs.Pictures.{bytes_of}
use Rattle.packing.proofs.TrialLaws.{picture-written}
use Rattle.packing.proofs.trying.picture_file.Goals as goal

pub returns-clause-bytes : goal.returns-clause-bytes
returns-clause-bytes c =
    picture-written c.args.job.now _ _ _ (c.in_ok-file.ensures.items ∙ c.as_slice.ensures.value
    ∙ (rw (c.get-width.ensures.same, c.get-height.ensures.same) at c.pam_header.ensures))
    (c.raster.ensures.bytes
    ∙ ap (λ p. bytes_of p.texels)
    (rw (c.get-width.ensures.same, c.get-height.ensures.same) at c.in_ok-picture.ensures))
    c.in_ok-extend_from_slice.ensures.items
