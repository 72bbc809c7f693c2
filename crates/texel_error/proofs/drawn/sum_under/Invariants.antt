use Rattle.std.proofs.Common.{◌≡◌, ◌≤◌, ◌*◌, ◌+◌, take}
use Rattle.std.specs.Prelude.{sum_by}
use Rattle.astc_model.specs.declared.block.Block.TheVariants.{Coded}
use Rattle.astc_model.specs.declared.block.Coded.{Coded as CodedFields}
use Rattle.texel_error.specs.Drawing.{IsDrawnFrom, block_error_at}
use Rattle.texel_error.specs.Orders.{four_sum}
use Rattle.texel_error.proofs.drawn.sum_under.Given as goal

abbrev pub invariant-loop-own : goal.invariant-loop-own
invariant-loop-own g l = record {
  sum : (coded : CodedFields) → IsDrawnFrom g.row.W g.row.H l.fn.goal.flavour l.fn.outline coded
      → l.total ≡ sum_by (λ one. four_sum (block_error_at g.row.W g.row.H l.fn.goal.flavour
      l.fn.goal.weights (Coded coded) l.fn.goal.places) one.group) (take l.own-index l.own-items);
  small : l.total ≤ 15606000 * l.own-index;
  rises : l.initial.steps ≤ l.steps;
  most : l.steps ≤ l.initial.steps + sum_by (λ one. one.count) (take l.own-index l.own-items);
}
