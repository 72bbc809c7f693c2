use Rattle.std.proofs.Common.{◌+◌, ◌≤◌, length, length-set, get_or, arith}
use Rattle.astc_model.specs.Shapes.{colour_count}
use Rattle.astc_model.specs.Endpoints.{endpoint_integers}
use Rattle.texel_error.proofs.PartLaws.{part_fits}
use Rattle.error_tables.proofs.ChangedLaws.{shaped_colour}
use Rattle.error_tables.proofs.colours.changed_ends.Given.{Over}
use Rattle.error_tables.proofs.colours.changed_ends.Goals as goal
use Rattle.error_tables.proofs.colours.changed_ends.Goals.{Start}

-- the integers of the part are among the block's
fits : (g : Over) (c : Start g)
    → colour_count c.args.part c.args.tables.now.block.cems + endpoint_integers
    (get_or c.args.tables.now.block.cems c.args.part 0)
    ≤ length c.args.tables.now.block.colours.items
fits g c =
    let is = c.requires.kept.is_shaped in
    rw is.legal.all_colours
    (part_fits c.args.tables.now.block.cems c.args.part c.args.tables.now.block.parts
    c.requires.integer.own (omega (arith, is.four_parts, is.four_modes)))

pub with_colour-changed-requires : goal.with_colour-changed-requires
with_colour-changed-requires g c =
    omega (arith, c.requires.integer.below, fits g (goal.at.with_colour-changed-requires g c).Start)

pub ends_of_part-requires-clause-fits : goal.ends_of_part-requires-clause-fits
ends_of_part-requires-clause-fits g c = rw c.with_colour-changed.ensures
    (rw (length-set c.args.tables.now.block.colours.items c.args.i c.args.value)
    (fits g (goal.at.ends_of_part-requires-clause-fits g c).Start))

pub ends_of_part-requires-clause-ranges : goal.ends_of_part-requires-clause-ranges
ends_of_part-requires-clause-ranges g c =
    let changed = shaped_colour g.row.W g.row.H _ _ _ c.args.i c.args.value
    c.requires.kept.is_shaped c.requires.range in
    rw c.with_colour-changed.ensures changed.legal.colour_ranges
