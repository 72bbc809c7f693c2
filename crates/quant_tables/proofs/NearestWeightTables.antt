-- Each table of closest integers equals the results of the search through the weights of the level.
use Rattle.std.proofs.Common.{◌≡◌, refl}
use Rattle.astc_model.specs.Nearest.{nearest_weight}
use Rattle.astc_model.specs.WeightValues.{weight_value}
use Rattle.astc_model.specs.declared.level.Level.TheVariants.{Two, Three, Four, Five, Six, Eight, Ten, Twelve, Sixteen, Twenty, TwentyFour, ThirtyTwo}
use Rattle.quant_tables.specs.Tables.{nearest_weights_of}
use Rattle.quant_tables.specs.declared.nearest_weights.TheConstants.{NEAREST_WEIGHT_TWO, NEAREST_WEIGHT_THREE, NEAREST_WEIGHT_FOUR, NEAREST_WEIGHT_FIVE, NEAREST_WEIGHT_SIX, NEAREST_WEIGHT_EIGHT, NEAREST_WEIGHT_TEN, NEAREST_WEIGHT_TWELVE, NEAREST_WEIGHT_SIXTEEN, NEAREST_WEIGHT_TWENTY, NEAREST_WEIGHT_TWENTY_FOUR, NEAREST_WEIGHT_THIRTY_TWO}

pub NEAREST_WEIGHT_TWO-is : NEAREST_WEIGHT_TWO ≡ nearest_weights_of Two
unfolding nearest_weight weight_value
NEAREST_WEIGHT_TWO-is = refl

pub NEAREST_WEIGHT_THREE-is : NEAREST_WEIGHT_THREE ≡ nearest_weights_of Three
unfolding nearest_weight weight_value
NEAREST_WEIGHT_THREE-is = refl

pub NEAREST_WEIGHT_FOUR-is : NEAREST_WEIGHT_FOUR ≡ nearest_weights_of Four
unfolding nearest_weight weight_value
NEAREST_WEIGHT_FOUR-is = refl

pub NEAREST_WEIGHT_FIVE-is : NEAREST_WEIGHT_FIVE ≡ nearest_weights_of Five
unfolding nearest_weight weight_value
NEAREST_WEIGHT_FIVE-is = refl

pub NEAREST_WEIGHT_SIX-is : NEAREST_WEIGHT_SIX ≡ nearest_weights_of Six
unfolding nearest_weight weight_value
NEAREST_WEIGHT_SIX-is = refl

pub NEAREST_WEIGHT_EIGHT-is : NEAREST_WEIGHT_EIGHT ≡ nearest_weights_of Eight
unfolding nearest_weight weight_value
NEAREST_WEIGHT_EIGHT-is = refl

pub NEAREST_WEIGHT_TEN-is : NEAREST_WEIGHT_TEN ≡ nearest_weights_of Ten
unfolding nearest_weight weight_value
NEAREST_WEIGHT_TEN-is = refl

pub NEAREST_WEIGHT_TWELVE-is : NEAREST_WEIGHT_TWELVE ≡ nearest_weights_of Twelve
unfolding nearest_weight weight_value
NEAREST_WEIGHT_TWELVE-is = refl

pub NEAREST_WEIGHT_SIXTEEN-is : NEAREST_WEIGHT_SIXTEEN ≡ nearest_weights_of Sixteen
unfolding nearest_weight weight_value
NEAREST_WEIGHT_SIXTEEN-is = refl

pub NEAREST_WEIGHT_TWENTY-is : NEAREST_WEIGHT_TWENTY ≡ nearest_weights_of Twenty
unfolding nearest_weight weight_value
NEAREST_WEIGHT_TWENTY-is = refl

pub NEAREST_WEIGHT_TWENTY_FOUR-is : NEAREST_WEIGHT_TWENTY_FOUR ≡ nearest_weights_of TwentyFour
unfolding nearest_weight weight_value
NEAREST_WEIGHT_TWENTY_FOUR-is = refl

pub NEAREST_WEIGHT_THIRTY_TWO-is : NEAREST_WEIGHT_THIRTY_TWO ≡ nearest_weights_of ThirtyTwo
unfolding nearest_weight weight_value
NEAREST_WEIGHT_THIRTY_TWO-is = refl
