use Rattle.std.proofs.Common.{◌≡◌, ◌<◌, ◌≤◌, ◌/◌, ◌%◌, ℕ, [], ◌∷◌, get_or, length}
use Rattle.std.specs.List.{All}
use Rattle.astc_model.specs.Infill.{factors}
use Rattle.texel_error.specs.Numerators.{plane_sum, last_plane}
use Rattle.texel_error.proofs.weights.numerators_of.Given as goal

abbrev pub invariant-loop-p : goal.invariant-loop-p
invariant-loop-p g l = record {
  done : (k : ℕ) → k < l.p → get_or l.all k []
      ≡ plane_sum l.mode.planes 0 l.values (factors g.row.W g.row.H l.mode.across l.mode.down
      (k % g.row.W) (k / g.row.W))
      ∷ plane_sum l.mode.planes (last_plane l.mode.planes) l.values
      (factors g.row.W g.row.H l.mode.across l.mode.down (k % g.row.W) (k / g.row.W)) ∷ [];
  long : length l.all ≡ 144;
  small : All (λ pair. All (λ n. n ≤ 1024) pair) l.all;
}
