use Rattle.std.proofs.Common.{◌≤◌, rules, arith}
use Rattle.std.specs.Prelude.{slice_index}
use Rattle.std.proofs.lemmas.Int.{ints}
use Rattle.line_floors.proofs.line.Slopes.constant.Goals as goal

pub returns-clause-small : goal.returns-clause-small
returns-clause-small c =
    let red : slice_index c.args.starts.now 0 ≤ 131070 = search rules in
    let green : slice_index c.args.starts.now 1 ≤ 131070 = search rules in
    let blue : slice_index c.args.starts.now 2 ≤ 131070 = search rules in
    let alpha : slice_index c.args.starts.now 3 ≤ 131070 = search rules in
    omega (arith, ints, c.negated.ensures.small, c.dot.ensures.small, red, green, blue, alpha)
