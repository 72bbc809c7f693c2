use Rattle.std.proofs.Common.{arith}
use Rattle.std.proofs.lemmas.List.FromFn.{get_or-map-range_with_len}
use Rattle.quant_tables.specs.Tables.{nearest_colour_value}
use Rattle.candidates.proofs.level_colours.value_at.Goals as goal

pub returns : goal.returns
returns c =
    rw (c.requires, c.from.ensures)
    (get_or-map-range_with_len (nearest_colour_value c.args.level) 0 256 c.args.value
    c.args.value 0 (omega arith) (omega arith))
