-- The table of the lengths of sequences of colour integers.
use Rattle.std.proofs.Common.{◌≡◌, ℕ, ◌<◌, ◌≤◌, IsTrue, ◌==◌, refl, arith}
use Rattle.std.specs.Prelude.{[], slice_index_or}
use Rattle.std.proofs.lemmas.Bool.{eqb-true}
use Rattle.astc_model.specs.Levels.{sequence_bits}
use Rattle.astc_model.specs.Sums.{all_below}
use Rattle.astc_model.specs.declared.level.Level.{Level}
use Rattle.astc_model.specs.declared.level.Level.TheVariants.{Two, Three, Four, Five, Six, Eight, Ten, Twelve, Sixteen, Twenty, TwentyFour, ThirtyTwo, Forty, FortyEight, SixtyFour, Eighty, NinetySix, OneTwentyEight, OneSixty, OneNinetyTwo, TwoFiftySix}
use Rattle.astc_model.proofs.SumLaws.{every_below}
use Rattle.block_mode.specs.Places.{level_place}
use Rattle.block_mode.specs.declared.colours.TheConstants.{COLOUR_BITS}

-- equality of two functions below n, found by a test
same_below : (f g : ℕ → ℕ) (n i : ℕ) → IsTrue (all_below (λ k. f k == g k) n) → i < n → f i ≡ g i
same_below f g n i all lt = eqb-true (f i) (g i) (every_below (λ k. f k == g k) n i all lt)

pub length_at : (level : Level) (n : ℕ) → n ≤ 18
    → slice_index_or (slice_index_or COLOUR_BITS (level_place level) []) n 0 ≡ sequence_bits level n
unfolding level_place
length_at Two n few = same_below (λ i. slice_index_or (slice_index_or COLOUR_BITS 0 []) i 0)
    (sequence_bits Two) 19 n refl (omega arith)
length_at Three n few = same_below (λ i. slice_index_or (slice_index_or COLOUR_BITS 1 []) i 0)
    (sequence_bits Three) 19 n refl (omega arith)
length_at Four n few = same_below (λ i. slice_index_or (slice_index_or COLOUR_BITS 2 []) i 0)
    (sequence_bits Four) 19 n refl (omega arith)
length_at Five n few = same_below (λ i. slice_index_or (slice_index_or COLOUR_BITS 3 []) i 0)
    (sequence_bits Five) 19 n refl (omega arith)
length_at Six n few = same_below (λ i. slice_index_or (slice_index_or COLOUR_BITS 4 []) i 0)
    (sequence_bits Six) 19 n refl (omega arith)
length_at Eight n few = same_below (λ i. slice_index_or (slice_index_or COLOUR_BITS 5 []) i 0)
    (sequence_bits Eight) 19 n refl (omega arith)
length_at Ten n few = same_below (λ i. slice_index_or (slice_index_or COLOUR_BITS 6 []) i 0)
    (sequence_bits Ten) 19 n refl (omega arith)
length_at Twelve n few = same_below (λ i. slice_index_or (slice_index_or COLOUR_BITS 7 []) i 0)
    (sequence_bits Twelve) 19 n refl (omega arith)
length_at Sixteen n few = same_below (λ i. slice_index_or (slice_index_or COLOUR_BITS 8 []) i 0)
    (sequence_bits Sixteen) 19 n refl (omega arith)
length_at Twenty n few = same_below (λ i. slice_index_or (slice_index_or COLOUR_BITS 9 []) i 0)
    (sequence_bits Twenty) 19 n refl (omega arith)
length_at TwentyFour n few = same_below (λ i. slice_index_or (slice_index_or COLOUR_BITS 10 []) i 0)
    (sequence_bits TwentyFour) 19 n refl (omega arith)
length_at ThirtyTwo n few = same_below (λ i. slice_index_or (slice_index_or COLOUR_BITS 11 []) i 0)
    (sequence_bits ThirtyTwo) 19 n refl (omega arith)
length_at Forty n few = same_below (λ i. slice_index_or (slice_index_or COLOUR_BITS 12 []) i 0)
    (sequence_bits Forty) 19 n refl (omega arith)
length_at FortyEight n few = same_below (λ i. slice_index_or (slice_index_or COLOUR_BITS 13 []) i 0)
    (sequence_bits FortyEight) 19 n refl (omega arith)
length_at SixtyFour n few = same_below (λ i. slice_index_or (slice_index_or COLOUR_BITS 14 []) i 0)
    (sequence_bits SixtyFour) 19 n refl (omega arith)
length_at Eighty n few = same_below (λ i. slice_index_or (slice_index_or COLOUR_BITS 15 []) i 0)
    (sequence_bits Eighty) 19 n refl (omega arith)
length_at NinetySix n few = same_below (λ i. slice_index_or (slice_index_or COLOUR_BITS 16 []) i 0)
    (sequence_bits NinetySix) 19 n refl (omega arith)
length_at OneTwentyEight n few =
    same_below (λ i. slice_index_or (slice_index_or COLOUR_BITS 17 []) i 0)
    (sequence_bits OneTwentyEight) 19 n refl (omega arith)
length_at OneSixty n few = same_below (λ i. slice_index_or (slice_index_or COLOUR_BITS 18 []) i 0)
    (sequence_bits OneSixty) 19 n refl (omega arith)
length_at OneNinetyTwo n few =
    same_below (λ i. slice_index_or (slice_index_or COLOUR_BITS 19 []) i 0)
    (sequence_bits OneNinetyTwo) 19 n refl (omega arith)
length_at TwoFiftySix n few =
    same_below (λ i. slice_index_or (slice_index_or COLOUR_BITS 20 []) i 0)
    (sequence_bits TwoFiftySix) 19 n refl (omega arith)
