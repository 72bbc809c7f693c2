use Rattle.std.proofs.Common.{◌≡◌, length}
use Rattle.texel_error.proofs.groups.GroupOrigins.near.Given as goal

abbrev pub invariant-loop-k : goal.invariant-loop-k
invariant-loop-k l = record {
  first : length l.first ≡ 16;
  second : length l.second ≡ 16;
}
