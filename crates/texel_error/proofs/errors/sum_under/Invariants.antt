use Rattle.std.proofs.Common.{◌≡◌, ◌≤◌, ◌*◌}
use Rattle.astc_model.specs.Sums.{sum_to}
use Rattle.texel_error.specs.Counting.{TakesAtMost}
use Rattle.texel_error.specs.Limited.{count_under}
use Rattle.texel_error.specs.Decoding.{error_of_place}
use Rattle.texel_error.proofs.errors.sum_under.Given as goal

abbrev pub invariant-loop-p : goal.invariant-loop-p
invariant-loop-p g l = record {
  sum : l.total ≡ sum_to (error_of_place l.decoded l.weights l.places) l.p;
  small : l.total ≤ 3901500 * l.p;
  counted : TakesAtMost l.initial.steps l.steps
      (count_under (error_of_place l.decoded l.weights l.places) l.places l.limit l.p);
}
