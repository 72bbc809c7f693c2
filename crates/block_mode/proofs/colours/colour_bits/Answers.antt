use Rattle.std.proofs.Common.{◌∙◌}
use Rattle.block_mode.proofs.ColourTables.{length_at}
use Rattle.block_mode.proofs.colours.colour_bits.Goals as goal

pub returns-clause-bits : goal.returns-clause-bits
returns-clause-bits c = c.from-2.ensures ∙ rw (c.row_of.ensures.place, c.from.ensures)
    (length_at c.args.level c.args.integers c.requires)
