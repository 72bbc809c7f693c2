use Rattle.line_floors.specs.Floors.{line_weight}
use Rattle.line_floors.proofs.ErrorLaws.{under_error}
use Rattle.line_floors.proofs.distances.Goals as goal

pub returns-clause-exact : goal.returns-clause-exact
returns-clause-exact g c =
    rw (c.gains_of-gains.ensures.exact, c.flavour.ensures, c.weights.ensures)
    at c.distances_until.ensures

pub returns-clause-floor : goal.returns-clause-floor
unfolding line_weight
returns-clause-floor g c = λ parts coded are has.
    let is = returns-clause-exact g c in
    rw is.are
    (under_error g.row.W g.row.H c.args.goal.now.flavour c.args.goal.now.weights c.args.component
    c.args.sums.now.is_opaque parts c.args.ends.now c.args.goal.now.places
    c.args.sums.now coded has is.partitions is.within c.requires.few are)
