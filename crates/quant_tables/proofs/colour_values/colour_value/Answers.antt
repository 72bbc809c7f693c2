use Rattle.std.proofs.Common.{arith}
use Rattle.std.proofs.lemmas.List.FromFn.{get_or-map-range_with_len}
use Rattle.astc_model.specs.ColourValues.{colour_value}
use Rattle.astc_model.specs.Levels.{count_of}
use Rattle.quant_tables.proofs.colour_values.colour_value.Goals as goal

pub returns : goal.returns
returns c =
    rw c.colour_values.ensures (get_or-map-range_with_len (colour_value c.args.level) 0
    (count_of c.args.level) c.args.i c.args.i 0 c.requires.integer (omega arith))
