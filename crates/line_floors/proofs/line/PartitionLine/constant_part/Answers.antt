use Rattle.std.proofs.Common.{◌*◌, ◌≤◌, w64, FitsSigned, rules, arith}
use Rattle.std.specs.Prelude.{slice_index}
use Rattle.std.proofs.lemmas.Int.{to_z-of_z}
use Rattle.line_floors.proofs.line.PartitionLine.constant_part.Goals as goal

pub constant_product-requires-clause-sum : goal.constant_product-requires-clause-sum
constant_product-requires-clause-sum c =
    let fits : FitsSigned w64 c.sum-sum.result = search rules in
    let red : slice_index c.args.sums.now.sums 0 ≤ 130815 * 144 = search rules in
    let green : slice_index c.args.sums.now.sums 1 ≤ 130815 * 144 = search rules in
    let blue : slice_index c.args.sums.now.sums 2 ≤ 130815 * 144 = search rules in
    let alpha : slice_index c.args.sums.now.sums 3 ≤ 130815 * 144 = search rules in
    rw (to_z-of_z w64 c.sum-sum.result fits)
    (omega (arith, c.sum-sum.ensures.small, c.requires.sums.count_within, red, green, blue, alpha))
