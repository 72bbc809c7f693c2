use Rattle.std.proofs.Common.{◌≡◌, ◌*◌, ◌≤◌, take}
use Rattle.astc_model.specs.Places.{channel_sum, inside_count}
use Rattle.astc_model.proofs.mean.sums_of.Given as goal

abbrev pub invariant-loop-place : goal.invariant-loop-place
invariant-loop-place l = record {
  red : l.sums.red ≡ channel_sum 0 (take l.place-index l.places);
  green : l.sums.green ≡ channel_sum 1 (take l.place-index l.places);
  blue : l.sums.blue ≡ channel_sum 2 (take l.place-index l.places);
  alpha : l.sums.alpha ≡ channel_sum 3 (take l.place-index l.places);
  count : l.sums.count ≡ inside_count (take l.place-index l.places);
  few : l.sums.count ≤ l.place-index;
  red_small : l.sums.red ≤ 255 * l.sums.count;
  green_small : l.sums.green ≤ 255 * l.sums.count;
  blue_small : l.sums.blue ≤ 255 * l.sums.count;
  alpha_small : l.sums.alpha ≤ 255 * l.sums.count;
}
