use Rattle.std.proofs.Common.{◌≡◌, ℕ, ◌<◌, get_or, length}
use Rattle.texel_error.proofs.groups.each_of.Given as goal

abbrev pub invariant-loop-k : goal.invariant-loop-k
invariant-loop-k l = record {
  all : length l.each ≡ 16;
  each : (j : ℕ) → j < l.k → get_or l.each j 0 ≡ get_or l.table (get_or l.places j 0) 0;
}
