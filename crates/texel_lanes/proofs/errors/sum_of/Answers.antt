use Rattle.std.proofs.Common.{arith, w32, ◌≤◌}
use Rattle.std.proofs.lemmas.Simd.{sum_fits, sum_bound, Each1-from_get_or}
use Rattle.texel_lanes.proofs.LaneLaws.{own, sum_of_eight}
use Rattle.texel_lanes.proofs.errors.sum_of.Goals as goal

pub overflow_add-result : goal.overflow_add-result
overflow_add-result c =
    let v = c.args.lanes in
    let long = c.requires.long in
    sum_fits w32 0 v (omega (
      arith,
      sum_bound 1950750 v
          (Each1-from_get_or (λ a. a ≤ 1950750) v 0 (λ i l. c.requires.small i (omega arith))),
    ))

pub returns : goal.returns
returns c = sum_of_eight c.args.lanes _ (own 8 c.args.lanes c.requires.long)
