use Rattle.std.proofs.Common.{sym, ◌∙◌, ap}
use Rattle.quant_tables.specs.Tables.{nearest_colours_of}
use Rattle.quant_tables.proofs.NearestColourTables.{NEAREST_COLOUR_SIX-is, NEAREST_COLOUR_EIGHT-is, NEAREST_COLOUR_TEN-is, NEAREST_COLOUR_TWELVE-is, NEAREST_COLOUR_SIXTEEN-is, NEAREST_COLOUR_TWENTY-is, NEAREST_COLOUR_TWENTY_FOUR-is, NEAREST_COLOUR_THIRTY_TWO-is, NEAREST_COLOUR_FORTY-is, NEAREST_COLOUR_FORTY_EIGHT-is, NEAREST_COLOUR_SIXTY_FOUR-is, NEAREST_COLOUR_EIGHTY-is, NEAREST_COLOUR_NINETY_SIX-is, NEAREST_COLOUR_ONE_TWENTY_EIGHT-is, NEAREST_COLOUR_ONE_SIXTY-is, NEAREST_COLOUR_ONE_NINETY_TWO-is, NEAREST_COLOUR_TWO_FIFTY_SIX-is}
use Rattle.quant_tables.proofs.nearest_colours.nearest_colours.Goals as goal

pub returns-in-Six : goal.returns-in-Six
returns-in-Six c = NEAREST_COLOUR_SIX-is ∙ ap nearest_colours_of (sym c.in-Six.is)

pub returns-in-Eight : goal.returns-in-Eight
returns-in-Eight c = NEAREST_COLOUR_EIGHT-is ∙ ap nearest_colours_of (sym c.in-Eight.is)

pub returns-in-Ten : goal.returns-in-Ten
returns-in-Ten c = NEAREST_COLOUR_TEN-is ∙ ap nearest_colours_of (sym c.in-Ten.is)

pub returns-in-Twelve : goal.returns-in-Twelve
returns-in-Twelve c = NEAREST_COLOUR_TWELVE-is ∙ ap nearest_colours_of (sym c.in-Twelve.is)

pub returns-in-Sixteen : goal.returns-in-Sixteen
returns-in-Sixteen c = NEAREST_COLOUR_SIXTEEN-is ∙ ap nearest_colours_of (sym c.in-Sixteen.is)

pub returns-in-Twenty : goal.returns-in-Twenty
returns-in-Twenty c = NEAREST_COLOUR_TWENTY-is ∙ ap nearest_colours_of (sym c.in-Twenty.is)

pub returns-in-TwentyFour : goal.returns-in-TwentyFour
returns-in-TwentyFour c = NEAREST_COLOUR_TWENTY_FOUR-is
    ∙ ap nearest_colours_of (sym c.in-TwentyFour.is)

pub returns-in-ThirtyTwo : goal.returns-in-ThirtyTwo
returns-in-ThirtyTwo c = NEAREST_COLOUR_THIRTY_TWO-is
    ∙ ap nearest_colours_of (sym c.in-ThirtyTwo.is)

pub returns-in-Forty : goal.returns-in-Forty
returns-in-Forty c = NEAREST_COLOUR_FORTY-is ∙ ap nearest_colours_of (sym c.in-Forty.is)

pub returns-in-FortyEight : goal.returns-in-FortyEight
returns-in-FortyEight c = NEAREST_COLOUR_FORTY_EIGHT-is
    ∙ ap nearest_colours_of (sym c.in-FortyEight.is)

pub returns-in-SixtyFour : goal.returns-in-SixtyFour
returns-in-SixtyFour c = NEAREST_COLOUR_SIXTY_FOUR-is
    ∙ ap nearest_colours_of (sym c.in-SixtyFour.is)

pub returns-in-Eighty : goal.returns-in-Eighty
returns-in-Eighty c = NEAREST_COLOUR_EIGHTY-is ∙ ap nearest_colours_of (sym c.in-Eighty.is)

pub returns-in-NinetySix : goal.returns-in-NinetySix
returns-in-NinetySix c = NEAREST_COLOUR_NINETY_SIX-is
    ∙ ap nearest_colours_of (sym c.in-NinetySix.is)

pub returns-in-OneTwentyEight : goal.returns-in-OneTwentyEight
returns-in-OneTwentyEight c = NEAREST_COLOUR_ONE_TWENTY_EIGHT-is
    ∙ ap nearest_colours_of (sym c.in-OneTwentyEight.is)

pub returns-in-OneSixty : goal.returns-in-OneSixty
returns-in-OneSixty c = NEAREST_COLOUR_ONE_SIXTY-is ∙ ap nearest_colours_of (sym c.in-OneSixty.is)

pub returns-in-OneNinetyTwo : goal.returns-in-OneNinetyTwo
returns-in-OneNinetyTwo c = NEAREST_COLOUR_ONE_NINETY_TWO-is
    ∙ ap nearest_colours_of (sym c.in-OneNinetyTwo.is)

pub returns-in-TwoFiftySix : goal.returns-in-TwoFiftySix
returns-in-TwoFiftySix c = NEAREST_COLOUR_TWO_FIFTY_SIX-is
    ∙ ap nearest_colours_of (sym c.in-TwoFiftySix.is)
