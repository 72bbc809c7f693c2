use Rattle.std.proofs.Common.{◌≡◌, map, take}
use Rattle.astc_model.specs.ColourValues.{colour_value}
use Rattle.candidates.proofs.colours.ends_of.Given as goal

abbrev pub invariant-loop-integer : goal.invariant-loop-integer
invariant-loop-integer l = l.values.items
    ≡ map (colour_value l.level) (take l.integer-index l.integers)
