use Rattle.std.proofs.Common.{◌≡◌, map, take}
use Rattle.quant_tables.specs.Tables.{nearest_colour_value}
use Rattle.candidates.proofs.level_colours.ends_near.Given as goal

abbrev pub invariant-loop-value : goal.invariant-loop-value
invariant-loop-value l = l.values.items ≡ map (nearest_colour_value l.level)
    (take l.value-index l.wanted)
