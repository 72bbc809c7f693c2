use Rattle.std.proofs.Common.{arith}
use Rattle.astc_model.proofs.SumLaws.{sum_to-more, sum_to-zero}
use Rattle.watched_shelf.specs.Lengths.{level_length}
use Rattle.watched_shelf.proofs.length.file_length.Goals as goal

pub loop-level-init : goal.loop-level-init
loop-level-init c = record {
  exact = omega (arith, sum_to-zero (level_length c.args.layout.now));
  most = omega (arith, c.requires.keys);
}

pub loop-level-preserved : goal.loop-level-preserved
loop-level-preserved c = record {
  exact = omega (
    arith,
    c.loop-level.invariant.exact,
    c.level_length-bytes.ensures.exact,
    sum_to-more (level_length c.args.layout.now) c.loop-level.level,
  );
  most = omega (arith, c.loop-level.invariant.most, c.level_length-bytes.ensures.most);
}
