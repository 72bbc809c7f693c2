use Rattle.std.proofs.Common.{arith}
use Rattle.std.proofs.lemmas.List.FromFn.{get_or-map-range_with_len}
use Rattle.astc_model.specs.Nearest.{nearest_weight}
use Rattle.quant_tables.proofs.NearestLaws.{nearest_weight-is}
use Rattle.quant_tables.proofs.nearest_weights.nearest_weight.Goals as goal

pub returns-clause-found : goal.returns-clause-found
returns-clause-found c =
    rw c.nearest_weights.ensures
    (get_or-map-range_with_len (nearest_weight c.args.level) 0 65 c.args.w c.args.w 0
    (omega arith) (omega arith))

pub returns-clause-nearest : goal.returns-clause-nearest
returns-clause-nearest c = rw (returns-clause-found c) (nearest_weight-is c.args.level c.args.w)

pub returns-clause-in_range : goal.returns-clause-in_range
returns-clause-in_range c = (returns-clause-nearest c).within
