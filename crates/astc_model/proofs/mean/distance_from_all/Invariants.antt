use Rattle.std.proofs.Common.{◌≡◌, ◌*◌, ◌≤◌, take}
use Rattle.std.specs.Prelude.{sum_by}
use Rattle.astc_model.specs.Errors.{place_error}
use Rattle.astc_model.proofs.mean.distance_from_all.Given as goal

abbrev pub invariant-loop-place : goal.invariant-loop-place
invariant-loop-place l = record {
  exact : l.total ≡ sum_by (place_error l.weights l.shown) (take l.place-index l.places);
  small : l.total ≤ 3901500 * l.place-index;
}
