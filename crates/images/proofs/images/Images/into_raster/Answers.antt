use Rattle.std.proofs.Common.{◌∙◌, ap, sym}
use Rattle.images.specs.Pictures.{Pictures, bytes_of}
use Rattle.images.proofs.TexelLaws.{bytes_of-texels_of, raster_is_valid}
use Rattle.images.proofs.images.Images.into_raster.Goals as goal

pub returns-clause-bytes : goal.returns-clause-bytes
returns-clause-bytes c =
    sym (bytes_of-texels_of _ c.self.inside.raster.items c.self.invariant.5)
    ∙ ap (λ (images : Pictures). bytes_of images.texels) c.self.view_is

pub returns-clause-valid : goal.returns-clause-valid
returns-clause-valid c =
    let i = c.self.invariant in
    rw (← c.self.view_is) (raster_is_valid _ _ _ c.self.inside.raster.items i.0 i.1 i.2 i.3 i.4
    i.5)
