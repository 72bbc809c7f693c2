use Rattle.std.proofs.Common.{◌≡◌, ◌<◌, ◌*◌, ◌%◌, ◌/◌}
use Rattle.std.specs.Option.{IfSome}
use Rattle.astc_model.specs.Targets.{distance, nearest_inside}
use Rattle.candidates.proofs.targets.place_of_point.Given as goal

abbrev pub invariant-loop-p : goal.invariant-loop-p
invariant-loop-p g l = record {
  nearest : l.best ≡ nearest_inside (λ q. distance g.row.W g.row.H l.n l.m (l.k % l.n) (l.k / l.n)
      (q % g.row.W) (q / g.row.W)) l.places l.p;
  within : IfSome l.best (λ q. q < g.row.W * g.row.H);
}
