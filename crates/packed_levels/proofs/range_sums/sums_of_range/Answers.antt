use Rattle.std.proofs.Common.{◌≡◌, ◌-◌, take, sum, ap, sym, ◌∙◌, arith}
use Rattle.texture.specs.Shapes.{level_blocks}
use Rattle.astc_model.proofs.SumLaws.{sum_to-zero}
use Rattle.packed_levels.proofs.RangeLaws.{range-is, total-none, level-more, total-all}
use Rattle.packed_levels.proofs.range_sums.sums_of_range.Goals as goal

pub loop-level-init : goal.loop-level-init
loop-level-init c = record {
  images = c.new-sums.ensures.images;
  total = c.new-sums.ensures.total ∙ total-none c.args.start c.args.errors.now
      ∙ ap (λ n. sum (take (n - c.args.start) c.args.errors.now))
      (sym (sum_to-zero (level_blocks c.args.layout.now)));
}

pub loop-level-preserved : goal.loop-level-preserved
loop-level-preserved c = record {
  images = c.in_ok-add_level.ensures.images
      ∙ level-more c.args.layout.now c.args.start c.args.errors.now c.loop-level.level
      c.loop-level.sums.images.items c.loop-level.invariant.images;
  total = c.in_ok-add_level.ensures.total;
}

pub returns-clause-images : goal.returns-clause-images
returns-clause-images c =
    let all : c.loop-level.level ≡ c.args.layout.now.levels =
    omega (
      arith,
      c.loop-level-test.false,
      c.loop-level.auto.level-end,
      c.levels-level-end.ensures.exact,
    ) in
    c.loop-level.invariant.images
    ∙ range-is c.args.layout.now c.args.start c.args.errors.now c.loop-level.level all

pub returns-clause-total : goal.returns-clause-total
returns-clause-total c =
    let all : c.loop-level.level ≡ c.args.layout.now.levels =
    omega (
      arith,
      c.loop-level-test.false,
      c.loop-level.auto.level-end,
      c.levels-level-end.ensures.exact,
    ) in
    c.loop-level.invariant.total
    ∙ total-all c.args.layout.now c.args.start c.args.errors.now c.loop-level.level all
    c.requires.inside
