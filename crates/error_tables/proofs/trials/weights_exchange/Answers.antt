use Rattle.std.proofs.Common.{rules, get_or}
use Rattle.std.proofs.lemmas.List.Sums.{sum_by_more}
use Rattle.error_tables.specs.Trials.{weighed}
use Rattle.error_tables.proofs.trials.weights_exchange.Goals as goal

pub loop-touch-preserved : goal.loop-touch-preserved
loop-touch-preserved g c =
    let less_more : _ = sum_by_more (λ touch. get_or c.args.tables.now.errors touch.0 0)
    c.args.reach.now c.loop-touch.touch-index (0, 0) c.loop-touch-test.true in
    let more_more : _ = sum_by_more
    (λ touch. weighed c.args.tables.now c.args.plane c.args.old c.args.new touch.0 touch.1)
    c.args.reach.now c.loop-touch.touch-index (0, 0) c.loop-touch-test.true in
    record {
      less = rw less_more (cc c.loop-touch.invariant.less);
      more = rw more_more (cc
          (c.from.ensures, c.weighed-more.ensures.exact, c.loop-touch.invariant.more));
      less_few = search rules;
      more_few = search rules;
      counted = search rules;
    }
