use Rattle.std.proofs.Common.{◌≡◌, ◌<◌, ℕ, [], get_or, length}
use Rattle.astc_model.specs.CodedTexels.{part_colours}
use Rattle.texel_error.proofs.decoded.part_ends.Given as goal

abbrev pub invariant-loop-part : goal.invariant-loop-part
invariant-loop-part g l = record {
  done : (k : ℕ) → k < l.part → get_or l.all k ([], []) ≡ part_colours l.coded l.level k;
  long : length l.all ≡ 4;
}
