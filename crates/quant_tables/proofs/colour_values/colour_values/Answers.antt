use Rattle.std.proofs.Common.{sym, ◌∙◌, ap}
use Rattle.quant_tables.specs.Tables.{colour_values_of}
use Rattle.quant_tables.proofs.ColourTables.{COLOUR_VALUES_SIX-is, COLOUR_VALUES_EIGHT-is, COLOUR_VALUES_TEN-is, COLOUR_VALUES_TWELVE-is, COLOUR_VALUES_SIXTEEN-is, COLOUR_VALUES_TWENTY-is, COLOUR_VALUES_TWENTY_FOUR-is, COLOUR_VALUES_THIRTY_TWO-is, COLOUR_VALUES_FORTY-is, COLOUR_VALUES_FORTY_EIGHT-is, COLOUR_VALUES_SIXTY_FOUR-is, COLOUR_VALUES_EIGHTY-is, COLOUR_VALUES_NINETY_SIX-is, COLOUR_VALUES_ONE_TWENTY_EIGHT-is, COLOUR_VALUES_ONE_SIXTY-is, COLOUR_VALUES_ONE_NINETY_TWO-is, COLOUR_VALUES_TWO_FIFTY_SIX-is}
use Rattle.quant_tables.proofs.colour_values.colour_values.Goals as goal

pub returns-in-Six : goal.returns-in-Six
returns-in-Six c = COLOUR_VALUES_SIX-is ∙ ap colour_values_of (sym c.in-Six.is)

pub returns-in-Eight : goal.returns-in-Eight
returns-in-Eight c = COLOUR_VALUES_EIGHT-is ∙ ap colour_values_of (sym c.in-Eight.is)

pub returns-in-Ten : goal.returns-in-Ten
returns-in-Ten c = COLOUR_VALUES_TEN-is ∙ ap colour_values_of (sym c.in-Ten.is)

pub returns-in-Twelve : goal.returns-in-Twelve
returns-in-Twelve c = COLOUR_VALUES_TWELVE-is ∙ ap colour_values_of (sym c.in-Twelve.is)

pub returns-in-Sixteen : goal.returns-in-Sixteen
returns-in-Sixteen c = COLOUR_VALUES_SIXTEEN-is ∙ ap colour_values_of (sym c.in-Sixteen.is)

pub returns-in-Twenty : goal.returns-in-Twenty
returns-in-Twenty c = COLOUR_VALUES_TWENTY-is ∙ ap colour_values_of (sym c.in-Twenty.is)

pub returns-in-TwentyFour : goal.returns-in-TwentyFour
returns-in-TwentyFour c = COLOUR_VALUES_TWENTY_FOUR-is
    ∙ ap colour_values_of (sym c.in-TwentyFour.is)

pub returns-in-ThirtyTwo : goal.returns-in-ThirtyTwo
returns-in-ThirtyTwo c = COLOUR_VALUES_THIRTY_TWO-is ∙ ap colour_values_of (sym c.in-ThirtyTwo.is)

pub returns-in-Forty : goal.returns-in-Forty
returns-in-Forty c = COLOUR_VALUES_FORTY-is ∙ ap colour_values_of (sym c.in-Forty.is)

pub returns-in-FortyEight : goal.returns-in-FortyEight
returns-in-FortyEight c = COLOUR_VALUES_FORTY_EIGHT-is
    ∙ ap colour_values_of (sym c.in-FortyEight.is)

pub returns-in-SixtyFour : goal.returns-in-SixtyFour
returns-in-SixtyFour c = COLOUR_VALUES_SIXTY_FOUR-is ∙ ap colour_values_of (sym c.in-SixtyFour.is)

pub returns-in-Eighty : goal.returns-in-Eighty
returns-in-Eighty c = COLOUR_VALUES_EIGHTY-is ∙ ap colour_values_of (sym c.in-Eighty.is)

pub returns-in-NinetySix : goal.returns-in-NinetySix
returns-in-NinetySix c = COLOUR_VALUES_NINETY_SIX-is ∙ ap colour_values_of (sym c.in-NinetySix.is)

pub returns-in-OneTwentyEight : goal.returns-in-OneTwentyEight
returns-in-OneTwentyEight c = COLOUR_VALUES_ONE_TWENTY_EIGHT-is
    ∙ ap colour_values_of (sym c.in-OneTwentyEight.is)

pub returns-in-OneSixty : goal.returns-in-OneSixty
returns-in-OneSixty c = COLOUR_VALUES_ONE_SIXTY-is ∙ ap colour_values_of (sym c.in-OneSixty.is)

pub returns-in-OneNinetyTwo : goal.returns-in-OneNinetyTwo
returns-in-OneNinetyTwo c = COLOUR_VALUES_ONE_NINETY_TWO-is
    ∙ ap colour_values_of (sym c.in-OneNinetyTwo.is)

pub returns-in-TwoFiftySix : goal.returns-in-TwoFiftySix
returns-in-TwoFiftySix c = COLOUR_VALUES_TWO_FIFTY_SIX-is
    ∙ ap colour_values_of (sym c.in-TwoFiftySix.is)
