use Rattle.std.proofs.Common.{◌≡◌, ◌*◌, ◌≤◌, take, get_or}
use Rattle.std.specs.Prelude.{sum_by}
use Rattle.texel_error.specs.Counting.{TakesAtMost}
use Rattle.error_tables.specs.Trials.{coloured}
use Rattle.error_tables.proofs.trials.colours_exchange.Given as goal

abbrev pub invariant-loop-p : goal.invariant-loop-p
invariant-loop-p g l = record {
  less : l.less ≡ sum_by (λ p. get_or l.tables.errors p 0) (take l.p-index l.reach);
  more : l.more ≡ sum_by (λ p. coloured l.tables l.ends p) (take l.p-index l.reach);
  less_few : l.less ≤ 3901500 * l.p-index;
  more_few : l.more ≤ 3901500 * l.p-index;
  counted : TakesAtMost l.initial.steps l.steps l.p-index;
}
