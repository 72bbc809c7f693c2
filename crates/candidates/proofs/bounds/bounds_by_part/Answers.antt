use Rattle.std.proofs.Common.{rules}
use Rattle.candidates.specs.Pieces.{bounds_by_part}
use Rattle.candidates.proofs.PartBoundsLaws.{bounds_by_part-are}
use Rattle.candidates.proofs.bounds.bounds_by_part.Goals as goal

pub returns-clause-least_and_greatest : goal.returns-clause-least_and_greatest
unfolding bounds_by_part
returns-clause-least_and_greatest c =
    bounds_by_part-are c.args.parts.now c.args.count c.args.places.now _ (search rules)
