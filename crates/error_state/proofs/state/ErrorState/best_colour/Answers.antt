use Rattle.std.proofs.Common.{◌≡◌}
use Rattle.error_tables.specs.Kept.{IsKept}
use Rattle.error_tables.proofs.ChangedLaws.{colour_range-is}
use Rattle.colour_bounds.specs.PartScans.{integer_of}
use Rattle.error_state.proofs.state.ErrorState.best_colour.Given.{Over}
use Rattle.error_state.proofs.state.ErrorState.best_colour.Goals as goal

-- the integer that is tried
integer_is : (g : Over) (c : goal.After-best_colour_of g)
    → integer_of c.part_scan-scan.result c.place_within-place.result ≡ c.args.i
integer_is g c = rw (c.part_scan-scan.ensures.tables, c.part_scan-scan.ensures.part)
    c.place_within-place.ensures

pub returns-clause-least : goal.returns-clause-least
returns-clause-least g c =
    let is : IsKept g.row.W g.row.H c.self.inside.tables = c.self.invariant.0 in
    let least = rw (integer_is g c, c.part_scan-scan.ensures.tables)
    at c.best_colour_of.ensures.least in
    let has = rw (← c.self.view_is) at c.colour-present.ensures.exact in
    rw (← c.self.view_is) (λ value within other.
    least value (rw (colour_range-is g.row.W g.row.H _ _ _ is.is_shaped) at within)
    (rw (← has) at other))

pub returns-clause-steps : goal.returns-clause-steps
returns-clause-steps g c =
    let is : IsKept g.row.W g.row.H c.self.inside.tables = c.self.invariant.0 in
    let steps = rw (integer_is g c, c.part_scan-scan.ensures.tables)
    at c.best_colour_of.ensures.steps in
    rw (← c.self.view_is) (rw (colour_range-is g.row.W g.row.H _ _ _ is.is_shaped) steps)
