use Rattle.std.proofs.Common.{arith}
use Rattle.astc_model.proofs.SumLaws.{sum_to-zero}
use Rattle.texture.specs.Shapes.{level_blocks}
use Rattle.texture.proofs.ShapeLaws.{images-some, rows-some}
use Rattle.texture.proofs.RowLaws.{all-left}
use Rattle.texture.proofs.rows.BlockRows.of.Goals as goal

pub invariant_of-result : goal.invariant_of-result
invariant_of-result c =
    let shape = c.args.layout.now in
    record {
      valid = c.requires;
      level_most = omega arith;
      image_in = omega (arith, images-some shape c.requires);
      row_in = λ below. omega (arith, rows-some shape 0);
      first_is = λ below. omega (arith, sum_to-zero (level_blocks shape));
    }

pub returns : goal.returns
returns c = all-left c.args.layout.now (images-some c.args.layout.now c.requires)
