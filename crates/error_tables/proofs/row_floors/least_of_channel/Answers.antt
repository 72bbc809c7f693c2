use Rattle.std.proofs.Common.{◌≡◌, ◌*◌}
use Rattle.moments.specs.Floors.{factor_of, less_of, more_of}
use Rattle.error_tables.specs.Floors.{widening_of}
use Rattle.error_tables.proofs.RowLaws.{times_floor}
use Rattle.error_tables.proofs.row_floors.least_of_channel.Goals as goal

pub returns-clause-floor : goal.returns-clause-floor
returns-clause-floor c = λ second form.
    let scaled : c.scaled.result
    ≡ factor_of (widening_of c.args.flavour c.args.channel) * c.args.first =
    rw c.widening_of.ensures at c.scaled.ensures.exact in
    rw c.from.ensures
    (times_floor c.args.share
    (less_of c.args.moments.now
    (factor_of (widening_of c.args.flavour c.args.channel) * c.args.first) second)
    (more_of c.args.moments.now
    (factor_of (widening_of c.args.flavour c.args.channel) * c.args.first) second)
    c.least_at.result
    (rw (← scaled) (c.least_at.ensures.floor second (rw scaled form))))
