use Rattle.std.proofs.Common.{subst, sym}
use Rattle.error_state.specs.Scans.{NoBetter}
use Rattle.descent.proofs.CircleLaws.{best_has_none}
use Rattle.descent.proofs.circle.settle_integer.Goals as goal

pub returns-in-Some-clause-least : goal.returns-in-Some-clause-least
returns-in-Some-clause-least g c =
    subst (λ state. NoBetter g.row.W g.row.H state c.args.kind c.args.i) (sym c.set_value.ensures)
    (best_has_none g.row.W g.row.H c.args.state.now c.args.kind c.args.i c.in-Some.better
    c.in-Some.ensures.better c.in-Some.ensures.least)
