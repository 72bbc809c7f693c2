-- The greatest unquantized colour values and weights.
use Rattle.std.proofs.Common.{ℕ, ◌<◌, ◌≤◌, IsTrue, nat_le, refl}
use Rattle.std.proofs.lemmas.Bool.{leb-true}
use Rattle.astc_model.specs.ColourValues.{colour_value}
use Rattle.astc_model.specs.Levels.{count_of}
use Rattle.astc_model.specs.Sums.{all_below}
use Rattle.astc_model.specs.WeightValues.{weight_value}
use Rattle.astc_model.specs.declared.level.Level.{Level}
use Rattle.astc_model.specs.declared.level.Level.TheVariants.{Two, Three, Four, Five, Six, Eight, Ten, Twelve, Sixteen, Twenty, TwentyFour, ThirtyTwo, Forty, FortyEight, SixtyFour, Eighty, NinetySix, OneTwentyEight, OneSixty, OneNinetyTwo, TwoFiftySix}
use Rattle.astc_model.proofs.SumLaws.{every_below}

-- a bound on all values below n, found by a test
most_below : (value : ℕ → ℕ) (m n i : ℕ) → IsTrue (all_below (λ k. nat_le (value k) m) n) → i < n
    → value i ≤ m
most_below value m n i all lt =
    leb-true (value i) m (every_below (λ k. nat_le (value k) m) n i all lt)

pub colour_value-le : (level : Level) (i : ℕ) → i < count_of level → colour_value level i ≤ 255
unfolding colour_value
colour_value-le Two i lt = most_below (colour_value Two) 255 2 i refl lt
colour_value-le Three i lt = most_below (colour_value Three) 255 3 i refl lt
colour_value-le Four i lt = most_below (colour_value Four) 255 4 i refl lt
colour_value-le Five i lt = most_below (colour_value Five) 255 5 i refl lt
colour_value-le Six i lt = most_below (colour_value Six) 255 6 i refl lt
colour_value-le Eight i lt = most_below (colour_value Eight) 255 8 i refl lt
colour_value-le Ten i lt = most_below (colour_value Ten) 255 10 i refl lt
colour_value-le Twelve i lt = most_below (colour_value Twelve) 255 12 i refl lt
colour_value-le Sixteen i lt = most_below (colour_value Sixteen) 255 16 i refl lt
colour_value-le Twenty i lt = most_below (colour_value Twenty) 255 20 i refl lt
colour_value-le TwentyFour i lt = most_below (colour_value TwentyFour) 255 24 i refl lt
colour_value-le ThirtyTwo i lt = most_below (colour_value ThirtyTwo) 255 32 i refl lt
colour_value-le Forty i lt = most_below (colour_value Forty) 255 40 i refl lt
colour_value-le FortyEight i lt = most_below (colour_value FortyEight) 255 48 i refl lt
colour_value-le SixtyFour i lt = most_below (colour_value SixtyFour) 255 64 i refl lt
colour_value-le Eighty i lt = most_below (colour_value Eighty) 255 80 i refl lt
colour_value-le NinetySix i lt = most_below (colour_value NinetySix) 255 96 i refl lt
colour_value-le OneTwentyEight i lt = most_below (colour_value OneTwentyEight) 255 128 i refl lt
colour_value-le OneSixty i lt = most_below (colour_value OneSixty) 255 160 i refl lt
colour_value-le OneNinetyTwo i lt = most_below (colour_value OneNinetyTwo) 255 192 i refl lt
colour_value-le TwoFiftySix i lt = most_below (colour_value TwoFiftySix) 255 256 i refl lt

pub weight_value-le : (level : Level) (i : ℕ) → i < count_of level → weight_value level i ≤ 64
unfolding weight_value
weight_value-le Two i lt = most_below (weight_value Two) 64 2 i refl lt
weight_value-le Three i lt = most_below (weight_value Three) 64 3 i refl lt
weight_value-le Four i lt = most_below (weight_value Four) 64 4 i refl lt
weight_value-le Five i lt = most_below (weight_value Five) 64 5 i refl lt
weight_value-le Six i lt = most_below (weight_value Six) 64 6 i refl lt
weight_value-le Eight i lt = most_below (weight_value Eight) 64 8 i refl lt
weight_value-le Ten i lt = most_below (weight_value Ten) 64 10 i refl lt
weight_value-le Twelve i lt = most_below (weight_value Twelve) 64 12 i refl lt
weight_value-le Sixteen i lt = most_below (weight_value Sixteen) 64 16 i refl lt
weight_value-le Twenty i lt = most_below (weight_value Twenty) 64 20 i refl lt
weight_value-le TwentyFour i lt = most_below (weight_value TwentyFour) 64 24 i refl lt
weight_value-le ThirtyTwo i lt = most_below (weight_value ThirtyTwo) 64 32 i refl lt
weight_value-le Forty i lt = most_below (weight_value Forty) 64 40 i refl lt
weight_value-le FortyEight i lt = most_below (weight_value FortyEight) 64 48 i refl lt
weight_value-le SixtyFour i lt = most_below (weight_value SixtyFour) 64 64 i refl lt
weight_value-le Eighty i lt = most_below (weight_value Eighty) 64 80 i refl lt
weight_value-le NinetySix i lt = most_below (weight_value NinetySix) 64 96 i refl lt
weight_value-le OneTwentyEight i lt = most_below (weight_value OneTwentyEight) 64 128 i refl lt
weight_value-le OneSixty i lt = most_below (weight_value OneSixty) 64 160 i refl lt
weight_value-le OneNinetyTwo i lt = most_below (weight_value OneNinetyTwo) 64 192 i refl lt
weight_value-le TwoFiftySix i lt = most_below (weight_value TwoFiftySix) 64 256 i refl lt
