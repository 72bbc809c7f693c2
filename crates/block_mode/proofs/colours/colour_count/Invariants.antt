use Rattle.std.proofs.Common.{◌≡◌, ◌*◌, ◌≤◌, take}
use Rattle.std.specs.Prelude.{sum_by}
use Rattle.astc_model.specs.Endpoints.{endpoint_integers}
use Rattle.block_mode.proofs.colours.colour_count.Given as goal

abbrev pub invariant-loop-cem : goal.invariant-loop-cem
invariant-loop-cem l = record {
  total : l.total ≡ sum_by endpoint_integers (take l.cem-index l.cem-items);
  small : l.total ≤ 128 * l.cem-index;
}
