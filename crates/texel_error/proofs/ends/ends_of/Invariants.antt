use Rattle.std.proofs.Common.{◌≡◌, take, map}
use Rattle.astc_model.specs.ColourValues.{colour_value}
use Rattle.texel_error.proofs.ends.ends_of.Given as goal

abbrev pub invariant-loop-integer : goal.invariant-loop-integer
invariant-loop-integer l = l.values.items
    ≡ map (colour_value l.level) (take l.integer-index l.integers)
