use Rattle.error_tables.specs.Kept.{IsKept}
use Rattle.error_tables.proofs.ChangedLaws.{weight_range-is}
use Rattle.error_state.proofs.state.ErrorState.best_weight.Goals as goal

pub returns-clause-better : goal.returns-clause-better
returns-clause-better g c =
    rw (← c.self.view_is) (rw
    (c.weight_scan_of-scan.ensures.tables, c.weight_scan_of-scan.ensures.integer)
    at c.best_weight_of.ensures.better)

pub returns-clause-least : goal.returns-clause-least
returns-clause-least g c =
    let is : IsKept g.row.W g.row.H c.self.inside.tables = c.self.invariant.0 in
    let least = rw (c.weight_scan_of-scan.ensures.tables, c.weight_scan_of-scan.ensures.integer)
    at c.best_weight_of.ensures.least in
    let has = rw (← c.self.view_is) at c.weight-present.ensures.exact in
    rw (← c.self.view_is) (λ value within other.
    least value (rw (weight_range-is g.row.W g.row.H _ _ _ is.is_shaped) at within)
    (rw (← has) at other))

pub returns-clause-steps : goal.returns-clause-steps
returns-clause-steps g c =
    let is : IsKept g.row.W g.row.H c.self.inside.tables = c.self.invariant.0 in
    let steps = rw (c.weight_scan_of-scan.ensures.tables, c.weight_scan_of-scan.ensures.integer)
    at c.best_weight_of.ensures.steps in
    rw (← c.self.view_is) (rw (weight_range-is g.row.W g.row.H _ _ _ is.is_shaped) steps)
