use Rattle.std.proofs.Common.{ℕ, ◌<◌}
use Rattle.texel_error.specs.Counting.{TakesAtMost}
use Rattle.error_state.specs.Scans.{NoBetter}
use Rattle.descent.specs.Least.{texels_of}
use Rattle.descent.proofs.least.are_least.Given as goal

abbrev pub invariant-loop-i : goal.invariant-loop-i
invariant-loop-i g l = record {
  least : (k : ℕ) → k < l.i → NoBetter g.row.W g.row.H l.state l.kind k;
  steps : TakesAtMost l.initial.steps l.steps (texels_of g.row.W g.row.H l.state l.kind l.i);
}
