use Rattle.std.proofs.Common.{◌≡◌, ℕ, ◌<◌, ◌≤◌, get_or, length}
use Rattle.candidates.specs.Pieces.{place_target}
use Rattle.candidates.proofs.weights.target_map.Given as goal

abbrev pub invariant-loop-p : goal.invariant-loop-p
invariant-loop-p l = record {
  count : length l.targets ≡ 144;
  targets : (k : ℕ) → k < l.p → get_or l.targets k 0
      ≡ place_target l.component l.plane l.parts l.ends l.places k;
  small : (k : ℕ) → k < l.p → get_or l.targets k 0 ≤ 64;
}
