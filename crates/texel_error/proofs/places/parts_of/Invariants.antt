use Rattle.std.proofs.Common.{◌≡◌, ◌<◌, ◌/◌, ◌%◌, ℕ, get_or, length}
use Rattle.std.specs.List.{All}
use Rattle.astc_model.specs.Partitions.{part_of}
use Rattle.texel_error.proofs.places.parts_of.Given as goal

abbrev pub invariant-loop-p : goal.invariant-loop-p
invariant-loop-p g l = record {
  done : (k : ℕ) → k < l.p → get_or l.all k 0 ≡ part_of g.row.W g.row.H l.parts l.seed (k % g.row.W)
      (k / g.row.W);
  long : length l.all ≡ 144;
  small : All (λ part. part < 4) l.all;
}
