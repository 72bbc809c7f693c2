use Rattle.std.proofs.Common.{arith}
use Rattle.texel_error.proofs.PartLaws.{part_fits}
use Rattle.colour_bounds.proofs.part_scan.scan_of.Goals as goal

pub part_values-requires-clause-fits : goal.part_values-requires-clause-fits
part_values-requires-clause-fits g c =
    let is = c.requires.kept.is_shaped in
    rw is.legal.all_colours
    (part_fits c.args.tables.now.block.cems c.args.part c.args.tables.now.block.parts c.requires.own
    (omega (arith, is.four_parts, is.four_modes)))
