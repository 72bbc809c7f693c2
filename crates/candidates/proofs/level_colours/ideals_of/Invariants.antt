use Rattle.std.proofs.Common.{◌≡◌, length}
use Rattle.std.specs.List.{All}
use Rattle.astc_model.specs.Endpoints.{endpoint_integers}
use Rattle.candidates.specs.LevelColours.{AreIdealsTo}
use Rattle.candidates.proofs.level_colours.ideals_of.Given as goal

abbrev pub invariant-loop-part : goal.invariant-loop-part
invariant-loop-part l = record {
  are : AreIdealsTo l.recipe l.bounds l.part l.ideals.items;
  counts : All (λ values. length values.items ≡ endpoint_integers l.recipe.cem) l.ideals.items;
}
