use Rattle.std.proofs.Common.{◌≡◌}
use Rattle.astc_model.specs.Bounds.{bounds_below, texel_in}
use Rattle.candidates.proofs.bounds.bounds_of.Given as goal

abbrev pub invariant-loop-p : goal.invariant-loop-p
invariant-loop-p l = l.bounds ≡ bounds_below (texel_in l.parts l.part l.places) l.p
