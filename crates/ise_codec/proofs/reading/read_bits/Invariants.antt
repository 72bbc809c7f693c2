use Rattle.std.proofs.Common.{◌≡◌, ◌-◌, ◌++◌, length}
use Rattle.astc_model.specs.declared.level.Digit.TheVariants.{Bits}
use Rattle.astc_model.specs.Sequences.{values_in}
use Rattle.ise_codec.proofs.reading.read_bits.Given as goal

abbrev pub invariant-loop-i : goal.invariant-loop-i
invariant-loop-i l =
    (l.values.items ++ values_in Bits l.low (l.count - l._i) l.rest
    ≡ values_in Bits l.low l.count l.bits)
    × (length l.values.items ≡ l._i)
