use Rattle.std.proofs.Common.{sym, subst, arith}
use Rattle.astc_model.proofs.SumLaws.{sum_to-more, sum_to-zero}
use Rattle.texture.specs.Shapes.{IsValid, level_blocks}
use Rattle.texture.proofs.layout.Layout.blocks_before.Goals as goal

pub loop-before-init : goal.loop-before-init
loop-before-init c = record {
  exact = sym (sum_to-zero (level_blocks c.args.self.now));
  most = omega arith;
}

pub loop-before-preserved : goal.loop-before-preserved
loop-before-preserved c = record {
  exact = omega (
    arith,
    c.loop-before.invariant.exact,
    c.level_blocks-count.ensures.exact,
    sum_to-more (level_blocks c.args.self.now) c.loop-before.before,
  );
  most = omega (arith, c.loop-before.invariant.most, c.level_blocks-count.ensures.most);
}

pub overflow_add-count : goal.overflow_add-count
overflow_add-count c = omega (
  arith,
  c.loop-before.invariant.most,
  c.level_blocks-count.ensures.most,
  c.loop-before-test.true,
  c.loop-before.auto.before-end,
  c.requires,
  (subst IsValid c.self.view_is c.self.invariant).levels_few,
)
