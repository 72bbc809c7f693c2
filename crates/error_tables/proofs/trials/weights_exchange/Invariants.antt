use Rattle.std.proofs.Common.{◌≡◌, ◌*◌, ◌≤◌, take, get_or}
use Rattle.std.specs.Prelude.{sum_by}
use Rattle.texel_error.specs.Counting.{TakesAtMost}
use Rattle.error_tables.specs.Trials.{weighed}
use Rattle.error_tables.proofs.trials.weights_exchange.Given as goal

abbrev pub invariant-loop-touch : goal.invariant-loop-touch
invariant-loop-touch g l = record {
  less : l.less ≡ sum_by (λ touch. get_or l.tables.errors touch.0 0) (take l.touch-index l.reach);
  more : l.more ≡ sum_by (λ touch. weighed l.tables l.plane l.old l.new touch.0 touch.1)
      (take l.touch-index l.reach);
  less_few : l.less ≤ 3901500 * l.touch-index;
  more_few : l.more ≤ 3901500 * l.touch-index;
  counted : TakesAtMost l.initial.steps l.steps l.touch-index;
}
