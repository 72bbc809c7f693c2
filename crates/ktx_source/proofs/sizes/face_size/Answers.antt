use Rattle.std.proofs.Common.{◌≤◌, ◌*◌}
use Rattle.astc_model.specs.Limits.{most_texels}
use Rattle.texture.specs.Extents.{images_of}
use Rattle.ktx_source.proofs.SizeLemmas.{side_small, faces_fit, image_some, one_of_all}
use Rattle.ktx_source.proofs.sizes.face_size.Goals as goal

pub returns-clause-all : goal.returns-clause-all
returns-clause-all c =
    let extent = c.args.extent.now in
    let wide : c.side_at_level.result ≤ extent.width =
    rw c.side_at_level.ensures
    (side_small extent.width c.args.level c.requires.extent.width_some) in
    let high : c.side_at_level-2.result ≤ extent.height =
    rw c.side_at_level-2.ensures
    (side_small extent.height c.args.level c.requires.extent.height_some) in
    faces_fit extent c.row_size.result c.side_at_level.result c.side_at_level-2.result
    c.requires.extent c.row_size.ensures.most wide high

pub returns-clause-most : goal.returns-clause-most
returns-clause-most c =
    let extent = c.args.extent.now in
    let wide : c.side_at_level.result ≤ extent.width =
    rw c.side_at_level.ensures
    (side_small extent.width c.args.level c.requires.extent.width_some) in
    let high : c.side_at_level-2.result ≤ extent.height =
    rw c.side_at_level-2.ensures
    (side_small extent.height c.args.level c.requires.extent.height_some) in
    one_of_all (images_of extent) (c.row_size.result * c.side_at_level-2.result) (4 * most_texels)
    (image_some extent c.requires.extent)
    (faces_fit extent c.row_size.result c.side_at_level.result c.side_at_level-2.result
    c.requires.extent c.row_size.ensures.most wide high)
