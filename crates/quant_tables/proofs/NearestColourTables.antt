-- Each table of closest integers equals the results of the search through the colour values of the
-- level.
use Rattle.std.proofs.Common.{◌≡◌, refl}
use Rattle.astc_model.specs.Nearest.{nearest_colour}
use Rattle.astc_model.specs.ColourValues.{colour_value}
use Rattle.astc_model.specs.declared.level.Level.TheVariants.{Six, Eight, Ten, Twelve, Sixteen, Twenty, TwentyFour, ThirtyTwo, Forty, FortyEight, SixtyFour, Eighty, NinetySix, OneTwentyEight, OneSixty, OneNinetyTwo, TwoFiftySix}
use Rattle.quant_tables.specs.Tables.{nearest_colours_of}
use Rattle.quant_tables.specs.declared.nearest_colours.TheConstants.{NEAREST_COLOUR_SIX, NEAREST_COLOUR_EIGHT, NEAREST_COLOUR_TEN, NEAREST_COLOUR_TWELVE, NEAREST_COLOUR_SIXTEEN, NEAREST_COLOUR_TWENTY, NEAREST_COLOUR_TWENTY_FOUR, NEAREST_COLOUR_THIRTY_TWO, NEAREST_COLOUR_FORTY, NEAREST_COLOUR_FORTY_EIGHT, NEAREST_COLOUR_SIXTY_FOUR, NEAREST_COLOUR_EIGHTY, NEAREST_COLOUR_NINETY_SIX, NEAREST_COLOUR_ONE_TWENTY_EIGHT, NEAREST_COLOUR_ONE_SIXTY, NEAREST_COLOUR_ONE_NINETY_TWO, NEAREST_COLOUR_TWO_FIFTY_SIX}

pub NEAREST_COLOUR_SIX-is : NEAREST_COLOUR_SIX ≡ nearest_colours_of Six
unfolding nearest_colour colour_value
NEAREST_COLOUR_SIX-is = refl

pub NEAREST_COLOUR_EIGHT-is : NEAREST_COLOUR_EIGHT ≡ nearest_colours_of Eight
unfolding nearest_colour colour_value
NEAREST_COLOUR_EIGHT-is = refl

pub NEAREST_COLOUR_TEN-is : NEAREST_COLOUR_TEN ≡ nearest_colours_of Ten
unfolding nearest_colour colour_value
NEAREST_COLOUR_TEN-is = refl

pub NEAREST_COLOUR_TWELVE-is : NEAREST_COLOUR_TWELVE ≡ nearest_colours_of Twelve
unfolding nearest_colour colour_value
NEAREST_COLOUR_TWELVE-is = refl

pub NEAREST_COLOUR_SIXTEEN-is : NEAREST_COLOUR_SIXTEEN ≡ nearest_colours_of Sixteen
unfolding nearest_colour colour_value
NEAREST_COLOUR_SIXTEEN-is = refl

pub NEAREST_COLOUR_TWENTY-is : NEAREST_COLOUR_TWENTY ≡ nearest_colours_of Twenty
unfolding nearest_colour colour_value
NEAREST_COLOUR_TWENTY-is = refl

pub NEAREST_COLOUR_TWENTY_FOUR-is : NEAREST_COLOUR_TWENTY_FOUR ≡ nearest_colours_of TwentyFour
unfolding nearest_colour colour_value
NEAREST_COLOUR_TWENTY_FOUR-is = refl

pub NEAREST_COLOUR_THIRTY_TWO-is : NEAREST_COLOUR_THIRTY_TWO ≡ nearest_colours_of ThirtyTwo
unfolding nearest_colour colour_value
NEAREST_COLOUR_THIRTY_TWO-is = refl

pub NEAREST_COLOUR_FORTY-is : NEAREST_COLOUR_FORTY ≡ nearest_colours_of Forty
unfolding nearest_colour colour_value
NEAREST_COLOUR_FORTY-is = refl

pub NEAREST_COLOUR_FORTY_EIGHT-is : NEAREST_COLOUR_FORTY_EIGHT ≡ nearest_colours_of FortyEight
unfolding nearest_colour colour_value
NEAREST_COLOUR_FORTY_EIGHT-is = refl

pub NEAREST_COLOUR_SIXTY_FOUR-is : NEAREST_COLOUR_SIXTY_FOUR ≡ nearest_colours_of SixtyFour
unfolding nearest_colour colour_value
NEAREST_COLOUR_SIXTY_FOUR-is = refl

pub NEAREST_COLOUR_EIGHTY-is : NEAREST_COLOUR_EIGHTY ≡ nearest_colours_of Eighty
unfolding nearest_colour colour_value
NEAREST_COLOUR_EIGHTY-is = refl

pub NEAREST_COLOUR_NINETY_SIX-is : NEAREST_COLOUR_NINETY_SIX ≡ nearest_colours_of NinetySix
unfolding nearest_colour colour_value
NEAREST_COLOUR_NINETY_SIX-is = refl

pub NEAREST_COLOUR_ONE_TWENTY_EIGHT-is : NEAREST_COLOUR_ONE_TWENTY_EIGHT
    ≡ nearest_colours_of OneTwentyEight
unfolding nearest_colour colour_value
NEAREST_COLOUR_ONE_TWENTY_EIGHT-is = refl

pub NEAREST_COLOUR_ONE_SIXTY-is : NEAREST_COLOUR_ONE_SIXTY ≡ nearest_colours_of OneSixty
unfolding nearest_colour colour_value
NEAREST_COLOUR_ONE_SIXTY-is = refl

pub NEAREST_COLOUR_ONE_NINETY_TWO-is : NEAREST_COLOUR_ONE_NINETY_TWO
    ≡ nearest_colours_of OneNinetyTwo
unfolding nearest_colour colour_value
NEAREST_COLOUR_ONE_NINETY_TWO-is = refl

pub NEAREST_COLOUR_TWO_FIFTY_SIX-is : NEAREST_COLOUR_TWO_FIFTY_SIX ≡ nearest_colours_of TwoFiftySix
unfolding nearest_colour colour_value
NEAREST_COLOUR_TWO_FIFTY_SIX-is = refl
