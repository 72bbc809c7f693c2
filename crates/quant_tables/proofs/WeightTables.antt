-- Each table of unquantized weights equals the list of the formula's values.
use Rattle.std.proofs.Common.{◌≡◌, refl}
use Rattle.astc_model.specs.WeightValues.{weight_value}
use Rattle.astc_model.specs.declared.level.Level.TheVariants.{Two, Three, Four, Five, Six, Eight, Ten, Twelve, Sixteen, Twenty, TwentyFour, ThirtyTwo}
use Rattle.quant_tables.specs.Tables.{weight_values_of}
use Rattle.quant_tables.specs.declared.weight_values.TheConstants.{WEIGHT_VALUES_TWO, WEIGHT_VALUES_THREE, WEIGHT_VALUES_FOUR, WEIGHT_VALUES_FIVE, WEIGHT_VALUES_SIX, WEIGHT_VALUES_EIGHT, WEIGHT_VALUES_TEN, WEIGHT_VALUES_TWELVE, WEIGHT_VALUES_SIXTEEN, WEIGHT_VALUES_TWENTY, WEIGHT_VALUES_TWENTY_FOUR, WEIGHT_VALUES_THIRTY_TWO}

pub WEIGHT_VALUES_TWO-is : WEIGHT_VALUES_TWO ≡ weight_values_of Two
unfolding weight_value
WEIGHT_VALUES_TWO-is = refl

pub WEIGHT_VALUES_THREE-is : WEIGHT_VALUES_THREE ≡ weight_values_of Three
unfolding weight_value
WEIGHT_VALUES_THREE-is = refl

pub WEIGHT_VALUES_FOUR-is : WEIGHT_VALUES_FOUR ≡ weight_values_of Four
unfolding weight_value
WEIGHT_VALUES_FOUR-is = refl

pub WEIGHT_VALUES_FIVE-is : WEIGHT_VALUES_FIVE ≡ weight_values_of Five
unfolding weight_value
WEIGHT_VALUES_FIVE-is = refl

pub WEIGHT_VALUES_SIX-is : WEIGHT_VALUES_SIX ≡ weight_values_of Six
unfolding weight_value
WEIGHT_VALUES_SIX-is = refl

pub WEIGHT_VALUES_EIGHT-is : WEIGHT_VALUES_EIGHT ≡ weight_values_of Eight
unfolding weight_value
WEIGHT_VALUES_EIGHT-is = refl

pub WEIGHT_VALUES_TEN-is : WEIGHT_VALUES_TEN ≡ weight_values_of Ten
unfolding weight_value
WEIGHT_VALUES_TEN-is = refl

pub WEIGHT_VALUES_TWELVE-is : WEIGHT_VALUES_TWELVE ≡ weight_values_of Twelve
unfolding weight_value
WEIGHT_VALUES_TWELVE-is = refl

pub WEIGHT_VALUES_SIXTEEN-is : WEIGHT_VALUES_SIXTEEN ≡ weight_values_of Sixteen
unfolding weight_value
WEIGHT_VALUES_SIXTEEN-is = refl

pub WEIGHT_VALUES_TWENTY-is : WEIGHT_VALUES_TWENTY ≡ weight_values_of Twenty
unfolding weight_value
WEIGHT_VALUES_TWENTY-is = refl

pub WEIGHT_VALUES_TWENTY_FOUR-is : WEIGHT_VALUES_TWENTY_FOUR ≡ weight_values_of TwentyFour
unfolding weight_value
WEIGHT_VALUES_TWENTY_FOUR-is = refl

pub WEIGHT_VALUES_THIRTY_TWO-is : WEIGHT_VALUES_THIRTY_TWO ≡ weight_values_of ThirtyTwo
unfolding weight_value
WEIGHT_VALUES_THIRTY_TWO-is = refl
