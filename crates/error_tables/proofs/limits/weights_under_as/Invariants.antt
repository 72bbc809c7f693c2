use Rattle.std.proofs.Common.{◌≡◌, ◌*◌, ◌≤◌, take}
use Rattle.std.specs.Prelude.{sum_by}
use Rattle.texel_error.specs.Counting.{TakesAtMost}
use Rattle.error_tables.specs.Trials.{weighed}
use Rattle.error_tables.proofs.limits.weights_under_as.Given as goal

abbrev pub invariant-loop-touch : goal.invariant-loop-touch
invariant-loop-touch g l = record {
  more : l.more ≡ sum_by (λ touch. weighed l.tables l.plane l.old l.new touch.0 touch.1)
      (take l.touch-index l.reach);
  few : l.more ≤ 3901500 * l.touch-index;
  counted : TakesAtMost l.initial.steps l.steps l.touch-index;
}
