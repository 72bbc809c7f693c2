use Rattle.std.proofs.Common.{◌+◌, get_or, ap, arith}
use Rattle.moments.proofs.KeptLaws.{within_more}
use Rattle.error_tables.proofs.FloorLaws.{more_inside, more_outside}
use Rattle.error_tables.proofs.floors.add_place.Goals as goal

pub returns-in-Some-clause-floored : goal.returns-in-Some-clause-floored
returns-in-Some-clause-floored c =
    more_inside c.args.tables.now c.args.channel c.args.p c.args.moments.now c.add.new.self
    c.in-Some.wanted c.weight_at-weight.result _
    c.in-Some.is c.weight_at-weight.ensures.exact c.weight_at-weight.ensures.small
    (ap (λ k. get_or c.in-Some.wanted k 0) c.from.ensures)
    (rw c.widening_of-widening.ensures at c.add.ensures.exact)

pub returns-in_default-clause-floored : goal.returns-in_default-clause-floored
returns-in_default-clause-floored c =
    more_outside c.args.tables.now c.args.channel c.args.p c.args.moments.now c.in_default.is

pub returns-in_default-clause-within : goal.returns-in_default-clause-within
returns-in_default-clause-within c = λ n is. within_more n (n + 1) c.args.moments.now
    (omega arith) is
