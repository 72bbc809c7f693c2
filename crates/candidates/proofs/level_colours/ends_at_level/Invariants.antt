use Rattle.std.proofs.Common.{◌≡◌, List, map, length}
use Rattle.std.specs.List.{range_with_len}
use Rattle.astc_model.specs.declared.bounds.Box8.{Box8}
use Rattle.candidates.specs.LevelColours.{AreIdealsTo}
use Rattle.candidates.specs.Pieces.{ends_of_part_from}
use Rattle.candidates.proofs.level_colours.ends_at_level.Given as goal

abbrev pub invariant-loop-values : goal.invariant-loop-values
invariant-loop-values l = record {
  ends : (bounds : List Box8) → AreIdealsTo l.recipe bounds l.recipe.parts l.ideals → l.ends.items
      ≡ map (ends_of_part_from l.recipe l.level bounds) (range_with_len 0 l.values-index);
  count : length l.ends.items ≡ l.values-index;
}
