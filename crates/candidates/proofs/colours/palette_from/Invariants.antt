use Rattle.std.proofs.Common.{◌≡◌, ◌*◌, map, length}
use Rattle.std.specs.List.{range_with_len, flat_map}
use Rattle.astc_model.specs.Endpoints.{endpoint_integers}
use Rattle.candidates.specs.Pieces.{integers_from, ends_of_part_from}
use Rattle.candidates.proofs.colours.palette_from.Given as goal

abbrev pub invariant-loop-part : goal.invariant-loop-part
invariant-loop-part l = record {
  colours : l.colours.items ≡ flat_map (integers_from l.recipe l.level l.bounds)
      (range_with_len 0 l.part);
  ends : l.ends.items ≡ map (ends_of_part_from l.recipe l.level l.bounds) (range_with_len 0 l.part);
  integers : length l.colours.items ≡ l.part * endpoint_integers l.recipe.cem;
  count : length l.ends.items ≡ l.part;
}
