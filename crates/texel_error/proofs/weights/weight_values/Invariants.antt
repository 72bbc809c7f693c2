use Rattle.std.proofs.Common.{◌≡◌, ◌≤◌, take, map}
use Rattle.std.specs.List.{All}
use Rattle.astc_model.specs.WeightValues.{weight_value}
use Rattle.texel_error.proofs.weights.weight_values.Given as goal

abbrev pub invariant-loop-integer : goal.invariant-loop-integer
invariant-loop-integer l = record {
  values : l.values.items ≡ map (weight_value l.level) (take l.integer-index l.integers);
  small : All (λ weight. weight ≤ 64) l.values.items;
}
