use Rattle.std.proofs.Common.{arith}
use Rattle.std.proofs.lemmas.List.FromFn.{get_or-map-range_with_len}
use Rattle.astc_model.specs.Nearest.{nearest_colour}
use Rattle.quant_tables.proofs.NearestLaws.{nearest_colour-is}
use Rattle.quant_tables.proofs.nearest_colours.nearest_colour.Goals as goal

pub returns-clause-found : goal.returns-clause-found
returns-clause-found c =
    rw c.nearest_colours.ensures
    (get_or-map-range_with_len (nearest_colour c.args.level) 0 256 c.args.v c.args.v 0
    (omega arith) (omega arith))

pub returns-clause-nearest : goal.returns-clause-nearest
returns-clause-nearest c = rw (returns-clause-found c) (nearest_colour-is c.args.level c.args.v)

pub returns-clause-in_range : goal.returns-clause-in_range
returns-clause-in_range c = (returns-clause-nearest c).within
