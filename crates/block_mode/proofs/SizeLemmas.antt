-- Bounds on the lengths of sequences.
use Rattle.std.proofs.Common.{ℕ, ◌≤◌, arith}
use Rattle.astc_model.specs.declared.level.Level.{Level}
use Rattle.astc_model.specs.declared.level.Level.TheVariants.{Two, Three, Four, Five, Six, Eight, Ten, Twelve, Sixteen, Twenty, TwentyFour, ThirtyTwo, Forty, FortyEight, SixtyFour, Eighty, NinetySix, OneTwentyEight, OneSixty, OneNinetyTwo, TwoFiftySix}
use Rattle.astc_model.specs.Levels.{sequence_bits}

pub sequence_bits_small : (level : Level) (n : ℕ) → n ≤ 64 → sequence_bits level n ≤ 704
sequence_bits_small Two n few = omega arith
sequence_bits_small Three n few = omega arith
sequence_bits_small Four n few = omega arith
sequence_bits_small Five n few = omega arith
sequence_bits_small Six n few = omega arith
sequence_bits_small Eight n few = omega arith
sequence_bits_small Ten n few = omega arith
sequence_bits_small Twelve n few = omega arith
sequence_bits_small Sixteen n few = omega arith
sequence_bits_small Twenty n few = omega arith
sequence_bits_small TwentyFour n few = omega arith
sequence_bits_small ThirtyTwo n few = omega arith
sequence_bits_small Forty n few = omega arith
sequence_bits_small FortyEight n few = omega arith
sequence_bits_small SixtyFour n few = omega arith
sequence_bits_small Eighty n few = omega arith
sequence_bits_small NinetySix n few = omega arith
sequence_bits_small OneTwentyEight n few = omega arith
sequence_bits_small OneSixty n few = omega arith
sequence_bits_small OneNinetyTwo n few = omega arith
sequence_bits_small TwoFiftySix n few = omega arith
