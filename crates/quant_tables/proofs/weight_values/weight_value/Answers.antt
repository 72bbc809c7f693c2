use Rattle.std.proofs.Common.{arith}
use Rattle.std.proofs.lemmas.List.FromFn.{get_or-map-range_with_len}
use Rattle.astc_model.specs.WeightValues.{weight_value}
use Rattle.astc_model.specs.Levels.{count_of}
use Rattle.quant_tables.proofs.ValueLaws.{weight_value-le}
use Rattle.quant_tables.proofs.weight_values.weight_value.Goals as goal

pub returns-clause-value : goal.returns-clause-value
returns-clause-value c =
    rw c.weight_values.ensures (get_or-map-range_with_len (weight_value c.args.level) 0
    (count_of c.args.level) c.args.i c.args.i 0 c.requires.integer (omega arith))

pub returns-clause-in_range : goal.returns-clause-in_range
returns-clause-in_range c =
    rw (returns-clause-value c) (weight_value-le c.args.level c.args.i c.requires.integer)
