use Rattle.texture.proofs.PlaceLaws.{image-in-level, place-is}
use Rattle.texture.proofs.layout.Layout.block_place.Goals as goal

pub image_place-requires-clause-image : goal.image_place-requires-clause-image
image_place-requires-clause-image c =
    image-in-level c.args.self.now c.level_of-level.result.0 c.level_of-level.result.1
    c.rows-rows.result c.columns-columns.result c.rows-rows.ensures.some
    c.columns-columns.ensures.some c.rows-rows.ensures.exact c.columns-columns.ensures.exact
    c.level_of-level.ensures.within

pub returns : goal.returns
returns c =
    place-is c.args.self.now c.level_of-level.result.0 c.level_of-level.result.1 c.args.number
    c.rows-rows.result c.columns-columns.result c.image_place.result c.rows-rows.ensures.some
    c.columns-columns.ensures.some
    c.rows-rows.ensures.exact c.columns-columns.ensures.exact c.image_place.ensures.exact
    c.image_place.ensures.inside c.level_of-level.ensures.number
