use Rattle.images.proofs.TexelLaws.{raster_is_valid}
use Rattle.images.proofs.images.Images.from_raster.Goals as goal

pub returns-clause-valid : goal.returns-clause-valid
returns-clause-valid c =
    raster_is_valid c.args.width c.args.height c.args.count c.args.raster.items
    c.requires.width_some c.requires.width_most c.requires.height_some c.requires.height_most
    c.requires.count_some c.requires.full
