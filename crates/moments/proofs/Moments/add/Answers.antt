use Rattle.std.proofs.Common.{arith}
use Rattle.moments.proofs.Moments.add.Goals as goal

pub returns-clause-within : goal.returns-clause-within
returns-clause-within c = λ n is. record {
  first_squares_within = omega (arith, is.first_squares_within, c.weights_product.ensures.small);
  products_within = omega (arith, is.products_within, c.weights_product-2.ensures.small);
  second_squares_within =
      omega (arith, is.second_squares_within, c.weights_product-3.ensures.small);
  first_targets_within = omega (arith, is.first_targets_within, c.product.ensures.small);
  second_targets_within = omega (arith, is.second_targets_within, c.product-2.ensures.small);
  target_squares_within = omega (arith, is.target_squares_within, c.square.ensures.small);
}
