use Rattle.std.proofs.Common.{arith}
use Rattle.texel_error.proofs.LimitLaws.{under-none}
use Rattle.error_state.proofs.colour_scan.walk_tried.Goals as goal

pub returns-in-None-clause-exact : goal.returns-in-None-clause-exact
returns-in-None-clause-exact g c =
    let out = rw c.value_of.ensures at c.in-None.ensures in
    let more = c.requires.walk.on.outside c.args.value c.requires.range out in
    under-none c.args.least _
    (omega (arith, more, c.requires.least, c.requires.scan.kept.total_is))

pub returns-in-Some-clause-exact : goal.returns-in-Some-clause-exact
returns-in-Some-clause-exact g c =
    let in_trend = rw c.value_of.ensures at c.in-Some.ensures in
    c.own_tried.ensures.exact c.args.value c.requires.range in_trend.0 in_trend.1
