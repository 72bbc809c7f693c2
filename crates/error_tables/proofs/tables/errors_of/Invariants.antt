use Rattle.std.proofs.Common.{◌≡◌, ◌<◌, ◌≤◌, ◌*◌, ℕ, get_or, length}
use Rattle.std.specs.List.{All}
use Rattle.astc_model.specs.Sums.{sum_to}
use Rattle.texel_error.specs.Decoding.{error_of_place}
use Rattle.error_tables.proofs.tables.errors_of.Given as goal

abbrev pub invariant-loop-p : goal.invariant-loop-p
invariant-loop-p l = record {
  done : (k : ℕ) → k < l.p → get_or l.each k 0 ≡ error_of_place l.decoded l.weights l.places k;
  long : length l.each ≡ 144;
  small : All (λ error. error ≤ 3901500) l.each;
  sum : l.total ≡ sum_to (error_of_place l.decoded l.weights l.places) l.p;
  small_sum : l.total ≤ 3901500 * l.p;
}
