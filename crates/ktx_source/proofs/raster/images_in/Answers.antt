use Rattle.std.proofs.Common.{◌≤◌, ◌∙◌}
use Rattle.ktx_source.proofs.SizeLemmas.{side_small, texels_fit, level_rows}
use Rattle.ktx_source.proofs.raster.images_in.Goals as goal

pub raster_of-requires-clause-size : goal.raster_of-requires-clause-size
raster_of-requires-clause-size c =
    let extent = c.args.extent.now in
    let wide : c.side_at_level-width.result ≤ extent.width = rw c.side_at_level-width.ensures
    (side_small extent.width c.args.level c.requires.extent.width_some) in
    let high : c.side_at_level-height.result ≤ extent.height = rw c.side_at_level-height.ensures
    (side_small extent.height c.args.level c.requires.extent.height_some) in
    rw c.image_count-count.ensures.exact
    (texels_fit extent c.side_at_level-width.result c.side_at_level-height.result
    c.requires.extent wide high)

pub raster_of-requires-clause-full : goal.raster_of-requires-clause-full
raster_of-requires-clause-full c =
    c.requires.full ∙ level_rows c.args.format c.args.extent.now c.args.level
    c.side_at_level-width.result c.side_at_level-height.result c.image_count-count.result
    c.side_at_level-width.ensures c.side_at_level-height.ensures c.image_count-count.ensures.exact
