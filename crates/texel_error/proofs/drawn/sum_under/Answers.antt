use Rattle.std.proofs.Common.{◌≡◌, ℕ, ◌*◌, ◌≤◌, List, ap, ◌∙◌, arith, rules}
use Rattle.std.specs.Prelude.{sum_by}
use Rattle.std.proofs.lemmas.List.Sums.{sum_by-take-le, sum_by_more}
use Rattle.astc_model.specs.declared.block.Block.{Block}
use Rattle.astc_model.specs.declared.block.Block.TheVariants.{Coded}
use Rattle.texel_error.specs.Drawing.{block_error_at, drawn_error}
use Rattle.texel_error.specs.Goals.{GoalView, error_to}
use Rattle.texel_error.specs.Orders.{four_sum}
use Rattle.texel_error.specs.declared.order.RankedGroup.{RankedGroup}
use Rattle.texel_error.proofs.DrawnLaws.{group_same, sum-is, sum_all}
use Rattle.texel_error.proofs.LimitLaws.{under-none, under-some}
use Rattle.texel_error.proofs.OrderLaws.{few_places}
use Rattle.texel_error.proofs.drawn.sum_under.Goals as goal

abbrev no_group : RankedGroup
no_group = record { group = 0; count = 0; hardness = 0 }

pub loop-own-preserved : goal.loop-own-preserved
loop-own-preserved g c =
    let items : List RankedGroup = c.groups-own-items.result.now in
    let counted = sum_by_more (λ one. one.count) items c.loop-own.own-index no_group
    c.loop-own-test.true in
    record {
      sum = λ coded is.
          let aim : GoalView = c.args.goal.now in
          let f : RankedGroup → ℕ = λ one.
          four_sum (block_error_at g.row.W g.row.H aim.flavour aim.weights (Coded coded)
          aim.places) one.group in
          let own : c.group_error-total.result ≡ four_sum
          (block_error_at g.row.W g.row.H aim.flavour aim.weights (Coded coded) aim.places)
          c.from.result =
          c.group_error-total.ensures.exact aim.weights aim.places c.requires.lanes
          ∙ ap (λ flavour. four_sum
          (drawn_error flavour c.args.outline.now aim.weights aim.places) c.from.result)
          c.requires.flavour
          ∙ group_same g.row.W g.row.H aim c.args.outline.now c.requires.outline coded is
          c.requires.lanes.groups.all c.from.result in
          omega (
            arith,
            c.loop-own.invariant.sum coded is,
            own,
            ap (four_sum (block_error_at g.row.W g.row.H aim.flavour aim.weights (Coded coded)
                aim.places)) c.from.ensures,
            sum_by_more f items c.loop-own.own-index no_group c.loop-own-test.true,
          );
      small = search rules;
      rises = search rules;
      most = omega (arith, counted, c.count.ensures.most.most);
    }

pub returns-then-total-limit-clause-exact : goal.returns-then-total-limit-clause-exact
returns-then-total-limit-clause-exact g c = λ coded is.
    let aim : GoalView = c.args.goal.now in
    let block : Block = Coded coded in
    let items : List RankedGroup = c.groups-own-items.result.now in
    let f : RankedGroup → ℕ = λ one.
    four_sum (block_error_at g.row.W g.row.H aim.flavour aim.weights block aim.places)
    one.group in
    let whole : sum_by f items ≡ error_to g.row.W g.row.H aim block =
    rw c.groups-own-items.ensures (sum-is g.row.W g.row.H aim block _ c.requires.lanes.groups) in
    under-none c.args.limit (error_to g.row.W g.row.H aim block)
    (omega (
      arith,
      c.loop-own.invariant.sum coded is,
      sum_by-take-le f items
          c.loop-own.own-index,
      whole,
    ))

pub returns-then-total-limit-2-clause-exact : goal.returns-then-total-limit-2-clause-exact
returns-then-total-limit-2-clause-exact g c = λ coded is.
    let aim : GoalView = c.args.goal.now in
    let block : Block = Coded coded in
    let items : List RankedGroup = c.groups-own-items.result.now in
    let f : RankedGroup → ℕ = λ one.
    four_sum (block_error_at g.row.W g.row.H aim.flavour aim.weights block aim.places)
    one.group in
    let whole : sum_by f items ≡ error_to g.row.W g.row.H aim block =
    rw c.groups-own-items.ensures (sum-is g.row.W g.row.H aim block _ c.requires.lanes.groups) in
    under-some c.args.limit c.loop-own.total (error_to g.row.W g.row.H aim block)
    (c.loop-own.invariant.sum coded is
    ∙ sum_all f items c.loop-own.own-index c.loop-own-test.false ∙ whole)
    (omega arith)

pub returns-else-total-limit-2-clause-exact : goal.returns-else-total-limit-2-clause-exact
returns-else-total-limit-2-clause-exact g c = λ coded is.
    let aim : GoalView = c.args.goal.now in
    let block : Block = Coded coded in
    let items : List RankedGroup = c.groups-own-items.result.now in
    let f : RankedGroup → ℕ = λ one.
    four_sum (block_error_at g.row.W g.row.H aim.flavour aim.weights block aim.places)
    one.group in
    let whole : sum_by f items ≡ error_to g.row.W g.row.H aim block =
    rw c.groups-own-items.ensures (sum-is g.row.W g.row.H aim block _ c.requires.lanes.groups) in
    under-none c.args.limit (error_to g.row.W g.row.H aim block)
    (omega (
      arith,
      c.loop-own.invariant.sum coded is,
      sum_by-take-le f items
          c.loop-own.own-index,
      whole,
    ))

pub returns-then-total-limit-clause-steps : goal.returns-then-total-limit-clause-steps
returns-then-total-limit-clause-steps g c =
    let items : List RankedGroup = c.groups-own-items.result.now in
    let few : sum_by (λ one. one.count) items ≤ g.row.W * g.row.H =
    rw c.groups-own-items.ensures (few_places c.args.goal.now.places (g.row.W * g.row.H) _
    c.requires.lanes.groups) in
    record {
      least = c.loop-own.invariant.rises;
      most =
          omega (
            arith,
            c.loop-own.invariant.most,
            sum_by-take-le (λ one. one.count) items c.loop-own.own-index,
            few,
          );
    }

pub returns-then-total-limit-2-clause-steps : goal.returns-then-total-limit-2-clause-steps
returns-then-total-limit-2-clause-steps g c =
    let items : List RankedGroup = c.groups-own-items.result.now in
    let few : sum_by (λ one. one.count) items ≤ g.row.W * g.row.H =
    rw c.groups-own-items.ensures (few_places c.args.goal.now.places (g.row.W * g.row.H) _
    c.requires.lanes.groups) in
    record {
      least = c.loop-own.invariant.rises;
      most =
          omega (
            arith,
            c.loop-own.invariant.most,
            sum_by-take-le (λ one. one.count) items c.loop-own.own-index,
            few,
          );
    }

pub returns-else-total-limit-2-clause-steps : goal.returns-else-total-limit-2-clause-steps
returns-else-total-limit-2-clause-steps g c =
    let items : List RankedGroup = c.groups-own-items.result.now in
    let few : sum_by (λ one. one.count) items ≤ g.row.W * g.row.H =
    rw c.groups-own-items.ensures (few_places c.args.goal.now.places (g.row.W * g.row.H) _
    c.requires.lanes.groups) in
    record {
      least = c.loop-own.invariant.rises;
      most =
          omega (
            arith,
            c.loop-own.invariant.most,
            sum_by-take-le (λ one. one.count) items c.loop-own.own-index,
            few,
          );
    }
