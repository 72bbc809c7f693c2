use Rattle.ktx_source.proofs.RasterLemmas.{rows_whole}
use Rattle.ktx_source.proofs.raster.raster_of.Goals as goal

pub returns-in-Rgba8-clause-texels : goal.returns-in-Rgba8-clause-texels
returns-in-Rgba8-clause-texels c =
    rw c.in-Rgba8.is (rows_whole c.args.width c.args.rows c.args.bytes.items
    (rw c.in-Rgba8.is at c.requires.full))

pub returns-in-Rgb8-clause-texels : goal.returns-in-Rgb8-clause-texels
returns-in-Rgb8-clause-texels c =
    rw c.in-Rgb8.is (rw c.deref.ensures.value at c.widened.ensures.texels)

pub returns-in-Rgb8-clause-size : goal.returns-in-Rgb8-clause-size
returns-in-Rgb8-clause-size c = c.widened.ensures.size
