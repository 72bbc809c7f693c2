use Rattle.std.proofs.Common.{◌∙◌, sym}
use Rattle.error_tables.specs.Kept.{IsKept}
use Rattle.error_tables.proofs.ChangedLaws.{weight_range-is}
use Rattle.error_state.proofs.state.ErrorState.weight_range.Goals as goal

pub returns-clause-exact : goal.returns-clause-exact
returns-clause-exact g c =
    let is : IsKept g.row.W g.row.H c.self.inside.tables = c.self.invariant.0 in
    rw (← c.self.view_is) (c.count.ensures
    ∙ sym (weight_range-is g.row.W g.row.H _ _ _ is.is_shaped))
