-- Each table of unquantized colour values equals the list of the formula's values.
use Rattle.std.proofs.Common.{◌≡◌, refl}
use Rattle.astc_model.specs.ColourValues.{colour_value}
use Rattle.astc_model.specs.declared.level.Level.TheVariants.{Six, Eight, Ten, Twelve, Sixteen, Twenty, TwentyFour, ThirtyTwo, Forty, FortyEight, SixtyFour, Eighty, NinetySix, OneTwentyEight, OneSixty, OneNinetyTwo, TwoFiftySix}
use Rattle.quant_tables.specs.Tables.{colour_values_of}
use Rattle.quant_tables.specs.declared.colour_values.TheConstants.{COLOUR_VALUES_SIX, COLOUR_VALUES_EIGHT, COLOUR_VALUES_TEN, COLOUR_VALUES_TWELVE, COLOUR_VALUES_SIXTEEN, COLOUR_VALUES_TWENTY, COLOUR_VALUES_TWENTY_FOUR, COLOUR_VALUES_THIRTY_TWO, COLOUR_VALUES_FORTY, COLOUR_VALUES_FORTY_EIGHT, COLOUR_VALUES_SIXTY_FOUR, COLOUR_VALUES_EIGHTY, COLOUR_VALUES_NINETY_SIX, COLOUR_VALUES_ONE_TWENTY_EIGHT, COLOUR_VALUES_ONE_SIXTY, COLOUR_VALUES_ONE_NINETY_TWO, COLOUR_VALUES_TWO_FIFTY_SIX}

pub COLOUR_VALUES_SIX-is : COLOUR_VALUES_SIX ≡ colour_values_of Six
unfolding colour_value
COLOUR_VALUES_SIX-is = refl

pub COLOUR_VALUES_EIGHT-is : COLOUR_VALUES_EIGHT ≡ colour_values_of Eight
unfolding colour_value
COLOUR_VALUES_EIGHT-is = refl

pub COLOUR_VALUES_TEN-is : COLOUR_VALUES_TEN ≡ colour_values_of Ten
unfolding colour_value
COLOUR_VALUES_TEN-is = refl

pub COLOUR_VALUES_TWELVE-is : COLOUR_VALUES_TWELVE ≡ colour_values_of Twelve
unfolding colour_value
COLOUR_VALUES_TWELVE-is = refl

pub COLOUR_VALUES_SIXTEEN-is : COLOUR_VALUES_SIXTEEN ≡ colour_values_of Sixteen
unfolding colour_value
COLOUR_VALUES_SIXTEEN-is = refl

pub COLOUR_VALUES_TWENTY-is : COLOUR_VALUES_TWENTY ≡ colour_values_of Twenty
unfolding colour_value
COLOUR_VALUES_TWENTY-is = refl

pub COLOUR_VALUES_TWENTY_FOUR-is : COLOUR_VALUES_TWENTY_FOUR ≡ colour_values_of TwentyFour
unfolding colour_value
COLOUR_VALUES_TWENTY_FOUR-is = refl

pub COLOUR_VALUES_THIRTY_TWO-is : COLOUR_VALUES_THIRTY_TWO ≡ colour_values_of ThirtyTwo
unfolding colour_value
COLOUR_VALUES_THIRTY_TWO-is = refl

pub COLOUR_VALUES_FORTY-is : COLOUR_VALUES_FORTY ≡ colour_values_of Forty
unfolding colour_value
COLOUR_VALUES_FORTY-is = refl

pub COLOUR_VALUES_FORTY_EIGHT-is : COLOUR_VALUES_FORTY_EIGHT ≡ colour_values_of FortyEight
unfolding colour_value
COLOUR_VALUES_FORTY_EIGHT-is = refl

pub COLOUR_VALUES_SIXTY_FOUR-is : COLOUR_VALUES_SIXTY_FOUR ≡ colour_values_of SixtyFour
unfolding colour_value
COLOUR_VALUES_SIXTY_FOUR-is = refl

pub COLOUR_VALUES_EIGHTY-is : COLOUR_VALUES_EIGHTY ≡ colour_values_of Eighty
unfolding colour_value
COLOUR_VALUES_EIGHTY-is = refl

pub COLOUR_VALUES_NINETY_SIX-is : COLOUR_VALUES_NINETY_SIX ≡ colour_values_of NinetySix
unfolding colour_value
COLOUR_VALUES_NINETY_SIX-is = refl

pub COLOUR_VALUES_ONE_TWENTY_EIGHT-is : COLOUR_VALUES_ONE_TWENTY_EIGHT
    ≡ colour_values_of OneTwentyEight
unfolding colour_value
COLOUR_VALUES_ONE_TWENTY_EIGHT-is = refl

pub COLOUR_VALUES_ONE_SIXTY-is : COLOUR_VALUES_ONE_SIXTY ≡ colour_values_of OneSixty
unfolding colour_value
COLOUR_VALUES_ONE_SIXTY-is = refl

pub COLOUR_VALUES_ONE_NINETY_TWO-is : COLOUR_VALUES_ONE_NINETY_TWO ≡ colour_values_of OneNinetyTwo
unfolding colour_value
COLOUR_VALUES_ONE_NINETY_TWO-is = refl

pub COLOUR_VALUES_TWO_FIFTY_SIX-is : COLOUR_VALUES_TWO_FIFTY_SIX ≡ colour_values_of TwoFiftySix
unfolding colour_value
COLOUR_VALUES_TWO_FIFTY_SIX-is = refl
