use Rattle.std.proofs.Common.{◌≡◌, ◌+◌, ◌++◌, length}
use Rattle.astc_model.specs.declared.level.Digit.TheVariants.{Trit}
use Rattle.astc_model.specs.Sequences.{values_in}
use Rattle.ise_codec.proofs.reading.read_trits.Given as goal

abbrev pub invariant-loop-left : goal.invariant-loop-left
invariant-loop-left l =
    (l.values.items ++ values_in Trit l.low l.left l.rest ≡ values_in Trit l.low l.count l.bits)
    × (length l.values.items + l.left ≡ l.count)

abbrev pub decreases-loop-left : goal.decreases-loop-left
decreases-loop-left l = l.left
