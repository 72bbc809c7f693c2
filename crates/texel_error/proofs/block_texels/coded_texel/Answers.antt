use Rattle.std.proofs.Common.{◌∙◌, refl, arith}
use Rattle.texel_error.specs.Shaped.{IsShaped}
use Rattle.texel_error.proofs.PartLaws.{part_fits}
use Rattle.texel_error.proofs.NumeratorLaws.{pair-is, in_grid}
use Rattle.texel_error.proofs.TexelLaws.{shown_of-is}
use Rattle.texel_error.proofs.block_texels.coded_texel.Goals as goal

pub ends_of_part-ends-requires-clause-fits : goal.ends_of_part-ends-requires-clause-fits
ends_of_part-ends-requires-clause-fits g c =
    let is : IsShaped g.row.W g.row.H c.args.coded.now c.shape_of-level.result.0
    c.shape_of-level.result.1 = c.shape_of-level.ensures in
    rw is.legal.all_colours
    (part_fits c.args.coded.now.cems c.part_of-part.result c.args.coded.now.parts
    c.part_of-part.ensures.within (omega (arith, is.four_parts, is.four_modes)))

pub returns : goal.returns
returns g c =
    let is : IsShaped g.row.W g.row.H c.args.coded.now c.shape_of-level.result.0
    c.shape_of-level.result.1 = c.shape_of-level.ensures in
    c.shown.ensures
    ∙ shown_of-is g.row.W g.row.H c.args.flavour c.args.coded.now c.shape_of-level.result.0
    c.shape_of-level.result.1 is c.args.x c.args.y _ _ _ refl
    (c.ends_of_part-ends.ensures ∙ rw c.part_of-part.ensures.part refl)
    (λ q within. rw c.numerators_at-numerators.ensures.exact
    (pair-is g.row.W g.row.H c.args.coded.now c.shape_of-level.result.0 is.all_weights q c.args.x
    c.args.y _ is.some_plane is.two_planes within
    (c.as_slice-2.ensures.value ∙ c.weight_values-values.ensures.values
    ∙ rw c.as_slice.ensures.value refl)
    (in_grid g.row.W g.row.H (c.shape_of-level.result.0).across
    (c.shape_of-level.result.0).down c.args.x c.args.y c.requires.footprint is.some_columns
    is.columns is.some_rows is.rows c.requires.column c.requires.row)))
