use Rattle.std.proofs.Common.{arith}
use Rattle.astc_model.proofs.SumLaws.{sum_to-more, sum_to-zero}
use Rattle.texture.specs.Shapes.{level_blocks}
use Rattle.texture.proofs.layout.Layout.level_of.Goals as goal

pub loop-level-init : goal.loop-level-init
loop-level-init c = omega (arith, sum_to-zero (level_blocks c.args.self.now))

pub loop-level-preserved : goal.loop-level-preserved
loop-level-preserved c =
    omega (
      arith,
      c.loop-level.invariant,
      c.if-within-blocks.false,
      c.level_blocks-blocks.ensures.exact,
      sum_to-more
          (level_blocks c.args.self.now) c.loop-level.level,
    )
