use Rattle.std.proofs.Common.{rules}
use Rattle.std.proofs.lemmas.List.Sums.{sum_by_more}
use Rattle.error_tables.specs.Trials.{weighed}
use Rattle.error_tables.proofs.limits.weights_under_as.Goals as goal

pub loop-touch-preserved : goal.loop-touch-preserved
loop-touch-preserved g c =
    let more_more : _ = sum_by_more
    (λ touch. weighed c.args.tables.now c.args.plane c.args.old c.args.new touch.0 touch.1)
    c.args.reach.now c.loop-touch.touch-index (0, 0) c.loop-touch-test.true in
    record {
      more = rw more_more (cc
          (c.from.ensures, c.weighed-more.ensures.exact, c.loop-touch.invariant.more));
      few = search rules;
      counted = search rules;
    }
