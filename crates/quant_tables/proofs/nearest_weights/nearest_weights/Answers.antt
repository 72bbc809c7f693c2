use Rattle.std.proofs.Common.{sym, ◌∙◌, ap}
use Rattle.quant_tables.specs.Tables.{nearest_weights_of}
use Rattle.quant_tables.proofs.NearestWeightTables.{NEAREST_WEIGHT_TWO-is, NEAREST_WEIGHT_THREE-is, NEAREST_WEIGHT_FOUR-is, NEAREST_WEIGHT_FIVE-is, NEAREST_WEIGHT_SIX-is, NEAREST_WEIGHT_EIGHT-is, NEAREST_WEIGHT_TEN-is, NEAREST_WEIGHT_TWELVE-is, NEAREST_WEIGHT_SIXTEEN-is, NEAREST_WEIGHT_TWENTY-is, NEAREST_WEIGHT_TWENTY_FOUR-is, NEAREST_WEIGHT_THIRTY_TWO-is}
use Rattle.quant_tables.proofs.nearest_weights.nearest_weights.Goals as goal

pub returns-in-Two : goal.returns-in-Two
returns-in-Two c = NEAREST_WEIGHT_TWO-is ∙ ap nearest_weights_of (sym c.in-Two.is)

pub returns-in-Three : goal.returns-in-Three
returns-in-Three c = NEAREST_WEIGHT_THREE-is ∙ ap nearest_weights_of (sym c.in-Three.is)

pub returns-in-Four : goal.returns-in-Four
returns-in-Four c = NEAREST_WEIGHT_FOUR-is ∙ ap nearest_weights_of (sym c.in-Four.is)

pub returns-in-Five : goal.returns-in-Five
returns-in-Five c = NEAREST_WEIGHT_FIVE-is ∙ ap nearest_weights_of (sym c.in-Five.is)

pub returns-in-Six : goal.returns-in-Six
returns-in-Six c = NEAREST_WEIGHT_SIX-is ∙ ap nearest_weights_of (sym c.in-Six.is)

pub returns-in-Eight : goal.returns-in-Eight
returns-in-Eight c = NEAREST_WEIGHT_EIGHT-is ∙ ap nearest_weights_of (sym c.in-Eight.is)

pub returns-in-Ten : goal.returns-in-Ten
returns-in-Ten c = NEAREST_WEIGHT_TEN-is ∙ ap nearest_weights_of (sym c.in-Ten.is)

pub returns-in-Twelve : goal.returns-in-Twelve
returns-in-Twelve c = NEAREST_WEIGHT_TWELVE-is ∙ ap nearest_weights_of (sym c.in-Twelve.is)

pub returns-in-Sixteen : goal.returns-in-Sixteen
returns-in-Sixteen c = NEAREST_WEIGHT_SIXTEEN-is ∙ ap nearest_weights_of (sym c.in-Sixteen.is)

pub returns-in-Twenty : goal.returns-in-Twenty
returns-in-Twenty c = NEAREST_WEIGHT_TWENTY-is ∙ ap nearest_weights_of (sym c.in-Twenty.is)

pub returns-in-TwentyFour : goal.returns-in-TwentyFour
returns-in-TwentyFour c = NEAREST_WEIGHT_TWENTY_FOUR-is
    ∙ ap nearest_weights_of (sym c.in-TwentyFour.is)

pub returns-in-ThirtyTwo : goal.returns-in-ThirtyTwo
returns-in-ThirtyTwo c = NEAREST_WEIGHT_THIRTY_TWO-is
    ∙ ap nearest_weights_of (sym c.in-ThirtyTwo.is)
