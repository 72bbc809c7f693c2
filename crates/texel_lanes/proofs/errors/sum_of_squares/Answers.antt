use Rattle.std.proofs.Common.{get_or, arith, ◌∙◌}
use Rattle.texel_lanes.proofs.LaneLaws.{eight_of_both, eight_small}
use Rattle.texel_lanes.proofs.errors.sum_of_squares.Goals as goal

pub returns-clause-exact : goal.returns-clause-exact
returns-clause-exact c = c.sum_of.ensures ∙ eight_of_both _ _ _ c.added-both.ensures

pub returns-clause-small : goal.returns-clause-small
returns-clause-small c =
    let both = c.added-both.ensures in
    let asks = c.requires in
    omega (
      arith,
      c.sum_of.ensures,
      eight_small (λ k. get_or c.added-both.result k 0) 1950750
          (λ k l. omega (arith, both.each k l, asks.one k l, asks.other k l)),
    )
