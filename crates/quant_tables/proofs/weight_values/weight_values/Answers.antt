use Rattle.std.proofs.Common.{sym, ◌∙◌, ap}
use Rattle.quant_tables.specs.Tables.{weight_values_of}
use Rattle.quant_tables.proofs.WeightTables.{WEIGHT_VALUES_TWO-is, WEIGHT_VALUES_THREE-is, WEIGHT_VALUES_FOUR-is, WEIGHT_VALUES_FIVE-is, WEIGHT_VALUES_SIX-is, WEIGHT_VALUES_EIGHT-is, WEIGHT_VALUES_TEN-is, WEIGHT_VALUES_TWELVE-is, WEIGHT_VALUES_SIXTEEN-is, WEIGHT_VALUES_TWENTY-is, WEIGHT_VALUES_TWENTY_FOUR-is, WEIGHT_VALUES_THIRTY_TWO-is}
use Rattle.quant_tables.proofs.weight_values.weight_values.Goals as goal

pub returns-in-Two : goal.returns-in-Two
returns-in-Two c = WEIGHT_VALUES_TWO-is ∙ ap weight_values_of (sym c.in-Two.is)

pub returns-in-Three : goal.returns-in-Three
returns-in-Three c = WEIGHT_VALUES_THREE-is ∙ ap weight_values_of (sym c.in-Three.is)

pub returns-in-Four : goal.returns-in-Four
returns-in-Four c = WEIGHT_VALUES_FOUR-is ∙ ap weight_values_of (sym c.in-Four.is)

pub returns-in-Five : goal.returns-in-Five
returns-in-Five c = WEIGHT_VALUES_FIVE-is ∙ ap weight_values_of (sym c.in-Five.is)

pub returns-in-Six : goal.returns-in-Six
returns-in-Six c = WEIGHT_VALUES_SIX-is ∙ ap weight_values_of (sym c.in-Six.is)

pub returns-in-Eight : goal.returns-in-Eight
returns-in-Eight c = WEIGHT_VALUES_EIGHT-is ∙ ap weight_values_of (sym c.in-Eight.is)

pub returns-in-Ten : goal.returns-in-Ten
returns-in-Ten c = WEIGHT_VALUES_TEN-is ∙ ap weight_values_of (sym c.in-Ten.is)

pub returns-in-Twelve : goal.returns-in-Twelve
returns-in-Twelve c = WEIGHT_VALUES_TWELVE-is ∙ ap weight_values_of (sym c.in-Twelve.is)

pub returns-in-Sixteen : goal.returns-in-Sixteen
returns-in-Sixteen c = WEIGHT_VALUES_SIXTEEN-is ∙ ap weight_values_of (sym c.in-Sixteen.is)

pub returns-in-Twenty : goal.returns-in-Twenty
returns-in-Twenty c = WEIGHT_VALUES_TWENTY-is ∙ ap weight_values_of (sym c.in-Twenty.is)

pub returns-in-TwentyFour : goal.returns-in-TwentyFour
returns-in-TwentyFour c = WEIGHT_VALUES_TWENTY_FOUR-is
    ∙ ap weight_values_of (sym c.in-TwentyFour.is)

pub returns-in-ThirtyTwo : goal.returns-in-ThirtyTwo
returns-in-ThirtyTwo c = WEIGHT_VALUES_THIRTY_TWO-is ∙ ap weight_values_of (sym c.in-ThirtyTwo.is)
