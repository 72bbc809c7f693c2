use Rattle.std.proofs.Common.{rules, get_or}
use Rattle.std.proofs.lemmas.List.Sums.{sum_by_more}
use Rattle.error_tables.proofs.limits.errors_of_touches.Goals as goal

pub loop-touch-preserved : goal.loop-touch-preserved
loop-touch-preserved c =
    let more : _ = sum_by_more (λ touch. get_or c.args.tables.now.errors touch.0 0) c.args.reach.now
    c.loop-touch.touch-index (0, 0) c.loop-touch-test.true in
    record {
      less = rw more (cc (c.from.ensures, c.loop-touch.invariant.less));
      few = search rules;
    }
