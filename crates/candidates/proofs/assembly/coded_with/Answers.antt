use Rattle.std.proofs.Common.{length}
use Rattle.candidates.proofs.PieceLaws.{coded_on-from}
use Rattle.candidates.proofs.assembly.coded_with.Goals as goal

pub returns : goal.returns
returns g c =
    let recipe = c.args.recipe.now in
    coded_on-from g.row.W g.row.H recipe c.args.mode.now c.args.level c.args.parts.now
    c.args.places.now (length c.args.places.now)
    c.args.bounds.now c.palette_from-palette.result.colours.items
    c.palette_from-palette.result.ends.items c.coded_from.result
    c.requires.places c.requires.bounds
    c.palette_from-palette.ensures.colours
    c.palette_from-palette.ensures.ends
    c.coded_from.ensures
