use Rattle.std.proofs.Common.{◌≡◌, ℕ, ◌<◌, None, true, is_some, get_or}
use Rattle.parting.proofs.gathering.all_there.Given as goal

abbrev pub invariant-loop-place : goal.invariant-loop-place
invariant-loop-place l = (k : ℕ) → k < l.place → is_some (get_or l.slots k None) ≡ true
