-- The values of the integers at level 256.
use Rattle.std.proofs.Common.{◌≡◌, ℕ, ◌<◌, refl, arith}
use Rattle.std.specs.Prelude.{nat_eq}
use Rattle.std.proofs.lemmas.Bool.{eqb-true}
use Rattle.astc_model.specs.ColourValues.{colour_value}
use Rattle.astc_model.specs.Levels.{count_of}
use Rattle.astc_model.specs.declared.level.Level.{Level}
use Rattle.astc_model.specs.declared.level.Level.TheVariants.{Two, Three, Four, Five, Six, Eight, Ten, Twelve, Sixteen, Twenty, TwentyFour, ThirtyTwo, Forty, FortyEight, SixtyFour, Eighty, NinetySix, OneTwentyEight, OneSixty, OneNinetyTwo, TwoFiftySix}
use Rattle.astc_model.proofs.SumLaws.{every_below}

-- at level 256 each integer is its own value
pub whole_value : (level : Level) (value : ℕ) → count_of level ≡ 256 → value < 256
    → colour_value level value ≡ value
unfolding colour_value
whole_value TwoFiftySix value is lt = eqb-true (colour_value TwoFiftySix value) value
    (every_below (λ k. nat_eq (colour_value TwoFiftySix k) k) 256 value refl lt)
whole_value Two value is lt = absurd (omega (arith, is))
whole_value Three value is lt = absurd (omega (arith, is))
whole_value Four value is lt = absurd (omega (arith, is))
whole_value Five value is lt = absurd (omega (arith, is))
whole_value Six value is lt = absurd (omega (arith, is))
whole_value Eight value is lt = absurd (omega (arith, is))
whole_value Ten value is lt = absurd (omega (arith, is))
whole_value Twelve value is lt = absurd (omega (arith, is))
whole_value Sixteen value is lt = absurd (omega (arith, is))
whole_value Twenty value is lt = absurd (omega (arith, is))
whole_value TwentyFour value is lt = absurd (omega (arith, is))
whole_value ThirtyTwo value is lt = absurd (omega (arith, is))
whole_value Forty value is lt = absurd (omega (arith, is))
whole_value FortyEight value is lt = absurd (omega (arith, is))
whole_value SixtyFour value is lt = absurd (omega (arith, is))
whole_value Eighty value is lt = absurd (omega (arith, is))
whole_value NinetySix value is lt = absurd (omega (arith, is))
whole_value OneTwentyEight value is lt = absurd (omega (arith, is))
whole_value OneSixty value is lt = absurd (omega (arith, is))
whole_value OneNinetyTwo value is lt = absurd (omega (arith, is))
