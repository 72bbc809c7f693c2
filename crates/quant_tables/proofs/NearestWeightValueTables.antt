-- Each table equals the list of the values of the closest integers.
use Rattle.std.proofs.Common.{◌≡◌, refl}
use Rattle.astc_model.specs.Nearest.{nearest_weight}
use Rattle.astc_model.specs.WeightValues.{weight_value}
use Rattle.astc_model.specs.declared.level.Level.TheVariants.{Two, Three, Four, Five, Six, Eight, Ten, Twelve, Sixteen, Twenty, TwentyFour, ThirtyTwo}
use Rattle.quant_tables.specs.Tables.{nearest_weight_values_of}
use Rattle.quant_tables.specs.declared.values_near_weights.TheConstants.{NEAREST_WEIGHT_VALUE_TWO, NEAREST_WEIGHT_VALUE_THREE, NEAREST_WEIGHT_VALUE_FOUR, NEAREST_WEIGHT_VALUE_FIVE, NEAREST_WEIGHT_VALUE_SIX, NEAREST_WEIGHT_VALUE_EIGHT, NEAREST_WEIGHT_VALUE_TEN, NEAREST_WEIGHT_VALUE_TWELVE, NEAREST_WEIGHT_VALUE_SIXTEEN, NEAREST_WEIGHT_VALUE_TWENTY, NEAREST_WEIGHT_VALUE_TWENTY_FOUR, NEAREST_WEIGHT_VALUE_THIRTY_TWO}

pub NEAREST_WEIGHT_VALUE_TWO-is : NEAREST_WEIGHT_VALUE_TWO ≡ nearest_weight_values_of Two
unfolding nearest_weight weight_value
NEAREST_WEIGHT_VALUE_TWO-is = refl

pub NEAREST_WEIGHT_VALUE_THREE-is : NEAREST_WEIGHT_VALUE_THREE ≡ nearest_weight_values_of Three
unfolding nearest_weight weight_value
NEAREST_WEIGHT_VALUE_THREE-is = refl

pub NEAREST_WEIGHT_VALUE_FOUR-is : NEAREST_WEIGHT_VALUE_FOUR ≡ nearest_weight_values_of Four
unfolding nearest_weight weight_value
NEAREST_WEIGHT_VALUE_FOUR-is = refl

pub NEAREST_WEIGHT_VALUE_FIVE-is : NEAREST_WEIGHT_VALUE_FIVE ≡ nearest_weight_values_of Five
unfolding nearest_weight weight_value
NEAREST_WEIGHT_VALUE_FIVE-is = refl

pub NEAREST_WEIGHT_VALUE_SIX-is : NEAREST_WEIGHT_VALUE_SIX ≡ nearest_weight_values_of Six
unfolding nearest_weight weight_value
NEAREST_WEIGHT_VALUE_SIX-is = refl

pub NEAREST_WEIGHT_VALUE_EIGHT-is : NEAREST_WEIGHT_VALUE_EIGHT ≡ nearest_weight_values_of Eight
unfolding nearest_weight weight_value
NEAREST_WEIGHT_VALUE_EIGHT-is = refl

pub NEAREST_WEIGHT_VALUE_TEN-is : NEAREST_WEIGHT_VALUE_TEN ≡ nearest_weight_values_of Ten
unfolding nearest_weight weight_value
NEAREST_WEIGHT_VALUE_TEN-is = refl

pub NEAREST_WEIGHT_VALUE_TWELVE-is : NEAREST_WEIGHT_VALUE_TWELVE ≡ nearest_weight_values_of Twelve
unfolding nearest_weight weight_value
NEAREST_WEIGHT_VALUE_TWELVE-is = refl

pub NEAREST_WEIGHT_VALUE_SIXTEEN-is : NEAREST_WEIGHT_VALUE_SIXTEEN
    ≡ nearest_weight_values_of Sixteen
unfolding nearest_weight weight_value
NEAREST_WEIGHT_VALUE_SIXTEEN-is = refl

pub NEAREST_WEIGHT_VALUE_TWENTY-is : NEAREST_WEIGHT_VALUE_TWENTY ≡ nearest_weight_values_of Twenty
unfolding nearest_weight weight_value
NEAREST_WEIGHT_VALUE_TWENTY-is = refl

pub NEAREST_WEIGHT_VALUE_TWENTY_FOUR-is : NEAREST_WEIGHT_VALUE_TWENTY_FOUR
    ≡ nearest_weight_values_of TwentyFour
unfolding nearest_weight weight_value
NEAREST_WEIGHT_VALUE_TWENTY_FOUR-is = refl

pub NEAREST_WEIGHT_VALUE_THIRTY_TWO-is : NEAREST_WEIGHT_VALUE_THIRTY_TWO
    ≡ nearest_weight_values_of ThirtyTwo
unfolding nearest_weight weight_value
NEAREST_WEIGHT_VALUE_THIRTY_TWO-is = refl
