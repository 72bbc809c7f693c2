use Rattle.std.proofs.Common.{◌≡◌, ◌≢◌, ◌-◌, ◌*◌, ◌/◌, ◌≤◌, arith}
use Rattle.error_tables.specs.RowFloors.{plus_at, minus_at}
use Rattle.error_tables.proofs.RowLaws.{least_law, divided}
use Rattle.error_tables.proofs.row_floors.least_at.Goals as goal

pub returns-clause-floor : goal.returns-clause-floor
returns-clause-floor c = λ second form.
    let some : c.args.moments.now.second_squares ≢ 0 =
    rw c.from-squares.ensures at c.if-squares-eq0.false in
    let rest : c.saturating_sub.result
    ≡ plus_at c.args.moments.now c.args.first - minus_at c.args.moments.now c.args.first =
    rw (c.plus_at.ensures.exact, c.minus_at.ensures.exact) at c.saturating_sub.ensures
    in
    let least : c.min.result ≤ c.saturating_sub.result / c.from-squares.result =
    omega (arith, c.min.ensures) in
    let whole : c.min.result * c.args.moments.now.second_squares ≤ plus_at c.args.moments.now
    c.args.first - minus_at c.args.moments.now c.args.first =
    rw (← rest, ← c.from-squares.ensures)
    (divided c.min.result c.saturating_sub.result c.from-squares.result c.if-squares-eq0.false
    least)
    in
    least_law c.args.moments.now c.args.first second c.min.result some whole form
