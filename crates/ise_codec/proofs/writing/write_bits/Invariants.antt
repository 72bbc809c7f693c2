use Rattle.std.proofs.Common.{◌≡◌, ◌≤◌, length, drop}
use Rattle.astc_model.specs.declared.level.Digit.TheVariants.{Bits}
use Rattle.astc_model.specs.Sequences.{values_written}
use Rattle.ise_codec.proofs.writing.write_bits.Given as goal

abbrev pub invariant-loop-first : goal.invariant-loop-first
invariant-loop-first l =
    (l.written ≡ values_written Bits l.low (drop l.first l.values)) × (l.first ≤ length l.values)

abbrev pub decreases-loop-first : goal.decreases-loop-first
decreases-loop-first l = l.first
