use Rattle.std.proofs.Common.{◌≡◌, ◌*◌, ◌≤◌}
use Rattle.astc_model.specs.Limits.{most_texels}
use Rattle.astc_model.specs.Sums.{sum_to}
use Rattle.texture.specs.Shapes.{level_blocks}
use Rattle.texture.proofs.layout.Layout.blocks_before.Given as goal

abbrev pub invariant-loop-before : goal.invariant-loop-before
invariant-loop-before l = record {
  exact : l.count ≡ sum_to (level_blocks l.self) l.before;
  most : l.count ≤ l.before * most_texels;
}
