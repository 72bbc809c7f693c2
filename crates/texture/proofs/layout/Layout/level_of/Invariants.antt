use Rattle.std.proofs.Common.{◌≡◌, ◌+◌}
use Rattle.astc_model.specs.Sums.{sum_to}
use Rattle.texture.specs.Shapes.{level_blocks}
use Rattle.texture.proofs.layout.Layout.level_of.Given as goal

abbrev pub invariant-loop-level : goal.invariant-loop-level
invariant-loop-level l = sum_to (level_blocks l.self) l.level + l.within ≡ l.fn.number
