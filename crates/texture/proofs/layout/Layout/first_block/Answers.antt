use Rattle.std.proofs.Common.{◌+◌, ◌*◌, ◌≤◌, arith, subst, ap}
use Rattle.texture.specs.Shapes.{IsValid, image_blocks, all_blocks}
use Rattle.texture.proofs.ShapeLaws.{image-within, level-within, all-most}
use Rattle.texture.proofs.layout.Layout.first_block.Goals as goal

within : (c : goal.After-image_blocks)
    → c.blocks_before.result + c.args.image * c.image_blocks.result + c.image_blocks.result
    ≤ all_blocks c.args.self.now
within c =
    omega (
      arith,
      c.blocks_before.ensures.exact,
      ap (λ n. (c.args.image + 1) * n) c.image_blocks.ensures.exact,
      image-within c.args.self.now c.args.level c.args.image c.requires.image,
      level-within c.args.self.now c.args.level c.requires.level,
    )

pub overflow_mul-result : goal.overflow_mul-result
overflow_mul-result c =
    omega (
      arith,
      within c,
      all-most c.args.self.now
          (subst IsValid c.self.view_is c.self.invariant),
    )

pub returns-clause-within : goal.returns-clause-within
returns-clause-within c = omega (arith, within c, c.image_blocks.ensures.exact)

pub returns-clause-most : goal.returns-clause-most
returns-clause-most c =
    omega (
      arith,
      within c,
      c.image_blocks.ensures.exact,
      all-most c.args.self.now
          (subst IsValid c.self.view_is c.self.invariant),
    )
