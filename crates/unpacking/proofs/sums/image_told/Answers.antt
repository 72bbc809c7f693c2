use Rattle.astc_model.specs.FootprintNames.{sides_of}
use Rattle.std.proofs.Common.{ap, ◌∙◌}
use Rattle.texture.specs.Shapes.{image_blocks}
use Rattle.texture.specs.Places.{first_block, image_place}
use Rattle.unpacking.proofs.BandLaws.{faults-part}
use Rattle.unpacking.proofs.ImageLaws.{told-is}
use Rattle.unpacking.proofs.sums.image_told.Goals as goal

pub sum_of-requires : goal.sum_of-requires
sum_of-requires c =
    faults-part (sides_of c.args.ktx.now.shape.name).0 (sides_of c.args.ktx.now.shape.name).1
    c.first_block-first.result c.image_blocks-blocks.result c.args.ktx.now.blocks
    c.args.faults.now c.requires.faults
    c.image_blocks-blocks.ensures.most

pub returns : goal.returns
returns c =
    told-is c.args.ktx.now c.args.level c.args.image c.first_block-first.result
    c.image_blocks-blocks.result c.sum_of.result c.image_place.result c.args.faults.now
    (c.image_place.ensures.exact
    ∙ ap (λ s. image_place s.faces c.args.level c.args.image) c.layout-layout.ensures)
    (c.image_blocks-blocks.ensures.exact
    ∙ ap (λ s. image_blocks s c.args.level) c.layout-layout.ensures)
    (c.first_block-first.ensures.exact
    ∙ ap (λ s. first_block s c.args.level c.args.image) c.layout-layout.ensures)
    c.requires.faults c.sum_of.ensures
