use Rattle.std.proofs.Common.{◌≡◌, ◌<◌, map, take}
use Rattle.std.specs.List.{All}
use Rattle.astc_model.specs.Levels.{count_of}
use Rattle.astc_model.specs.Nearest.{nearest_colour}
use Rattle.candidates.proofs.colours.integers_of.Given as goal

abbrev pub invariant-loop-value : goal.invariant-loop-value
invariant-loop-value l = record {
  integers : l.integers.items ≡ map (nearest_colour l.level) (take l.value-index l.value-items);
  ranges : All (λ integer. integer < count_of l.level) l.integers.items;
}
