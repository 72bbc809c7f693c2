use Rattle.std.proofs.Common.{◌≡◌, ◌<◌, ℕ, [], get_or, length}
use Rattle.texel_error.specs.Decoding.{shown_at}
use Rattle.texel_error.proofs.block_texels.texels.Given as goal

abbrev pub invariant-loop-p : goal.invariant-loop-p
invariant-loop-p g l = record {
  done : (k : ℕ) → k < l.p → get_or l.all k [] ≡ shown_at l.decoded k;
  long : length l.all ≡ 144;
}
