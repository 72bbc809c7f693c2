use Rattle.std.proofs.Common.{◌≡◌, map, length}
use Rattle.std.specs.List.{range_with_len}
use Rattle.astc_model.specs.Bounds.{bounds_of}
use Rattle.candidates.proofs.bounds.bounds_by_part.Given as goal

abbrev pub invariant-loop-part : goal.invariant-loop-part
invariant-loop-part l = record {
  bounds : l.bounds.items ≡ map (λ part. bounds_of l.parts part l.places (length l.places))
      (range_with_len 0 l.part);
  count : length l.bounds.items ≡ l.part;
}
