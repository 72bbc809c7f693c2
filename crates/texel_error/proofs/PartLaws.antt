-- The colour integers of a partition are among those of the block.
use Rattle.std.proofs.Common.{◌≡◌, ℕ, zero, suc, ◌+◌, ◌<◌, ◌≤◌, List, length, get_or, arith, inl, inr}
use Rattle.std.proofs.lemmas.Bool.{cases_lt}
use Rattle.std.proofs.lemmas.List.Sums.{sum_by_more}
use Rattle.astc_model.specs.Shapes.{colour_count}
use Rattle.astc_model.specs.Endpoints.{endpoint_integers}

-- the colour integers of a later partition begin no earlier
pub count_below : (cems : List ℕ) (r s : ℕ) → r ≤ s → s ≤ length cems
    → colour_count r cems ≤ colour_count s cems
count_below cems r zero below within = let none : r ≡ 0 = omega arith in rw none (omega arith)
count_below cems r (suc s) below within =
    elim (cases_lt s r) [
      | inl last ↦ let same : r ≡ suc s = omega arith in rw same (omega arith)
      | inr before ↦
          let least : colour_count r cems ≤ colour_count s cems =
          count_below cems r s before (omega arith) in
          let more : colour_count (s + 1) cems ≡ colour_count s cems + endpoint_integers
          (get_or cems s 0) = sum_by_more endpoint_integers cems s 0 (omega arith) in
          let same : s + 1 ≡ suc s = omega arith in
          let whole : colour_count (suc s) cems ≡ colour_count s cems + endpoint_integers
          (get_or cems s 0) = rw same at more in
          omega (arith, least, whole)
    ]

pub part_fits : (cems : List ℕ) (part parts : ℕ) → part < parts → parts ≤ length cems
    → colour_count part cems + endpoint_integers (get_or cems part 0) ≤ colour_count parts cems
part_fits cems part parts below within =
    let more : colour_count (part + 1) cems ≡ colour_count part cems + endpoint_integers
    (get_or cems part 0) = sum_by_more endpoint_integers cems part 0 (omega arith) in
    omega (arith, more, count_below cems (part + 1) parts (omega arith) within)
