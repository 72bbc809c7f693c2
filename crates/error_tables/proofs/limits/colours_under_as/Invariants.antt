use Rattle.std.proofs.Common.{◌≡◌, ◌*◌, ◌≤◌, take}
use Rattle.std.specs.Prelude.{sum_by}
use Rattle.texel_error.specs.Counting.{TakesAtMost}
use Rattle.error_tables.specs.Trials.{coloured}
use Rattle.error_tables.proofs.limits.colours_under_as.Given as goal

abbrev pub invariant-loop-p : goal.invariant-loop-p
invariant-loop-p g l = record {
  more : l.more ≡ sum_by (λ p. coloured l.tables l.ends p) (take l.p-index l.reach);
  few : l.more ≤ 3901500 * l.p-index;
  counted : TakesAtMost l.initial.steps l.steps l.p-index;
}
