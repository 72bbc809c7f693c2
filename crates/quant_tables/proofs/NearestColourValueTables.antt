-- Each table equals the list of the values of the closest integers.
use Rattle.std.proofs.Common.{◌≡◌, refl}
use Rattle.astc_model.specs.ColourValues.{colour_value}
use Rattle.astc_model.specs.Nearest.{nearest_colour}
use Rattle.astc_model.specs.declared.level.Level.TheVariants.{Six, Eight, Ten, Twelve, Sixteen, Twenty, TwentyFour, ThirtyTwo, Forty, FortyEight, SixtyFour, Eighty, NinetySix, OneTwentyEight, OneSixty, OneNinetyTwo, TwoFiftySix}
use Rattle.quant_tables.specs.Tables.{nearest_colour_values_of}
use Rattle.quant_tables.specs.declared.values_near_bytes.TheConstants.{NEAREST_COLOUR_VALUE_SIX, NEAREST_COLOUR_VALUE_EIGHT, NEAREST_COLOUR_VALUE_TEN, NEAREST_COLOUR_VALUE_TWELVE, NEAREST_COLOUR_VALUE_SIXTEEN, NEAREST_COLOUR_VALUE_TWENTY, NEAREST_COLOUR_VALUE_TWENTY_FOUR, NEAREST_COLOUR_VALUE_THIRTY_TWO, NEAREST_COLOUR_VALUE_FORTY, NEAREST_COLOUR_VALUE_FORTY_EIGHT, NEAREST_COLOUR_VALUE_SIXTY_FOUR, NEAREST_COLOUR_VALUE_EIGHTY, NEAREST_COLOUR_VALUE_NINETY_SIX, NEAREST_COLOUR_VALUE_ONE_TWENTY_EIGHT, NEAREST_COLOUR_VALUE_ONE_SIXTY, NEAREST_COLOUR_VALUE_ONE_NINETY_TWO, NEAREST_COLOUR_VALUE_TWO_FIFTY_SIX}

pub NEAREST_COLOUR_VALUE_SIX-is : NEAREST_COLOUR_VALUE_SIX ≡ nearest_colour_values_of Six
unfolding nearest_colour colour_value
NEAREST_COLOUR_VALUE_SIX-is = refl

pub NEAREST_COLOUR_VALUE_EIGHT-is : NEAREST_COLOUR_VALUE_EIGHT ≡ nearest_colour_values_of Eight
unfolding nearest_colour colour_value
NEAREST_COLOUR_VALUE_EIGHT-is = refl

pub NEAREST_COLOUR_VALUE_TEN-is : NEAREST_COLOUR_VALUE_TEN ≡ nearest_colour_values_of Ten
unfolding nearest_colour colour_value
NEAREST_COLOUR_VALUE_TEN-is = refl

pub NEAREST_COLOUR_VALUE_TWELVE-is : NEAREST_COLOUR_VALUE_TWELVE ≡ nearest_colour_values_of Twelve
unfolding nearest_colour colour_value
NEAREST_COLOUR_VALUE_TWELVE-is = refl

pub NEAREST_COLOUR_VALUE_SIXTEEN-is : NEAREST_COLOUR_VALUE_SIXTEEN
    ≡ nearest_colour_values_of Sixteen
unfolding nearest_colour colour_value
NEAREST_COLOUR_VALUE_SIXTEEN-is = refl

pub NEAREST_COLOUR_VALUE_TWENTY-is : NEAREST_COLOUR_VALUE_TWENTY ≡ nearest_colour_values_of Twenty
unfolding nearest_colour colour_value
NEAREST_COLOUR_VALUE_TWENTY-is = refl

pub NEAREST_COLOUR_VALUE_TWENTY_FOUR-is : NEAREST_COLOUR_VALUE_TWENTY_FOUR
    ≡ nearest_colour_values_of TwentyFour
unfolding nearest_colour colour_value
NEAREST_COLOUR_VALUE_TWENTY_FOUR-is = refl

pub NEAREST_COLOUR_VALUE_THIRTY_TWO-is : NEAREST_COLOUR_VALUE_THIRTY_TWO
    ≡ nearest_colour_values_of ThirtyTwo
unfolding nearest_colour colour_value
NEAREST_COLOUR_VALUE_THIRTY_TWO-is = refl

pub NEAREST_COLOUR_VALUE_FORTY-is : NEAREST_COLOUR_VALUE_FORTY ≡ nearest_colour_values_of Forty
unfolding nearest_colour colour_value
NEAREST_COLOUR_VALUE_FORTY-is = refl

pub NEAREST_COLOUR_VALUE_FORTY_EIGHT-is : NEAREST_COLOUR_VALUE_FORTY_EIGHT
    ≡ nearest_colour_values_of FortyEight
unfolding nearest_colour colour_value
NEAREST_COLOUR_VALUE_FORTY_EIGHT-is = refl

pub NEAREST_COLOUR_VALUE_SIXTY_FOUR-is : NEAREST_COLOUR_VALUE_SIXTY_FOUR
    ≡ nearest_colour_values_of SixtyFour
unfolding nearest_colour colour_value
NEAREST_COLOUR_VALUE_SIXTY_FOUR-is = refl

pub NEAREST_COLOUR_VALUE_EIGHTY-is : NEAREST_COLOUR_VALUE_EIGHTY ≡ nearest_colour_values_of Eighty
unfolding nearest_colour colour_value
NEAREST_COLOUR_VALUE_EIGHTY-is = refl

pub NEAREST_COLOUR_VALUE_NINETY_SIX-is : NEAREST_COLOUR_VALUE_NINETY_SIX
    ≡ nearest_colour_values_of NinetySix
unfolding nearest_colour colour_value
NEAREST_COLOUR_VALUE_NINETY_SIX-is = refl

pub NEAREST_COLOUR_VALUE_ONE_TWENTY_EIGHT-is : NEAREST_COLOUR_VALUE_ONE_TWENTY_EIGHT
    ≡ nearest_colour_values_of OneTwentyEight
unfolding nearest_colour colour_value
NEAREST_COLOUR_VALUE_ONE_TWENTY_EIGHT-is = refl

pub NEAREST_COLOUR_VALUE_ONE_SIXTY-is : NEAREST_COLOUR_VALUE_ONE_SIXTY
    ≡ nearest_colour_values_of OneSixty
unfolding nearest_colour colour_value
NEAREST_COLOUR_VALUE_ONE_SIXTY-is = refl

pub NEAREST_COLOUR_VALUE_ONE_NINETY_TWO-is : NEAREST_COLOUR_VALUE_ONE_NINETY_TWO
    ≡ nearest_colour_values_of OneNinetyTwo
unfolding nearest_colour colour_value
NEAREST_COLOUR_VALUE_ONE_NINETY_TWO-is = refl

pub NEAREST_COLOUR_VALUE_TWO_FIFTY_SIX-is : NEAREST_COLOUR_VALUE_TWO_FIFTY_SIX
    ≡ nearest_colour_values_of TwoFiftySix
unfolding nearest_colour colour_value
NEAREST_COLOUR_VALUE_TWO_FIFTY_SIX-is = refl
