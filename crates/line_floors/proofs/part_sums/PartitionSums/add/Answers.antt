use Rattle.std.proofs.Common.{arith}
use Rattle.line_floors.proofs.part_sums.PartitionSums.add.Goals as goal

pub returns-clause-within : goal.returns-clause-within
returns-clause-within c = λ n is. record {
  count_within = omega (arith, is.count_within);
  sums_within = c.plus_targets-sums.ensures.within n is.sums_within;
  red_within = c.plus_products-red.ensures.within n is.red_within;
  green_within = c.plus_products-green.ensures.within n is.green_within;
  blue_within = c.plus_products-blue.ensures.within n is.blue_within;
  alpha_within = c.plus_products-alpha.ensures.within n is.alpha_within;
}
