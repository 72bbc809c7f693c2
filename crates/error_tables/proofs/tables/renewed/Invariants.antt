use Rattle.std.proofs.Common.{◌≡◌, ◌≤◌, ℕ, get_or, length, take}
use Rattle.std.specs.List.{All}
use Rattle.astc_model.specs.Sums.{sum_to}
use Rattle.texel_error.specs.Decoding.{error_of_place}
use Rattle.error_tables.specs.Reached.{renewed}
use Rattle.error_tables.proofs.tables.renewed.Given as goal

abbrev pub invariant-loop-p : goal.invariant-loop-p
invariant-loop-p l = record {
  done : (k : ℕ) → get_or l.each k 0 ≡ renewed (λ p. get_or l.fn.errors.each p 0)
      (error_of_place l.decoded l.weights l.places) (take l.p-index l.reach) k;
  small : All (λ error. error ≤ 3901500) l.each;
  long : length l.each ≡ 144;
  sum : l.total ≡ sum_to (λ p. get_or l.each p 0) (length l.places);
}
