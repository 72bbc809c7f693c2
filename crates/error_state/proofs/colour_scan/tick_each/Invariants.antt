use Rattle.texel_error.specs.Counting.{TakesAtMost}
use Rattle.error_state.proofs.colour_scan.tick_each.Given as goal

abbrev pub invariant-loop-place : goal.invariant-loop-place
invariant-loop-place g l = record { counted : TakesAtMost l.initial.steps l.steps l._place-index }
