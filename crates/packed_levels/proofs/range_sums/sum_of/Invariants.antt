use Rattle.std.proofs.Common.{◌≡◌, ◌≤◌, ◌*◌, ◌^◌, take, sum}
use Rattle.packed_levels.proofs.range_sums.sum_of.Given as goal

abbrev pub invariant-loop-error : goal.invariant-loop-error
invariant-loop-error l = record {
  exact : l.total ≡ sum (take l.error-index l.errors);
  most : l.total ≤ l.error-index * 2 ^ 32;
}
