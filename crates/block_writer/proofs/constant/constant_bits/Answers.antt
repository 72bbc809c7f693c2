use Rattle.block_writer.proofs.ConstantLemmas.{constant-back}
use Rattle.block_writer.proofs.constant.constant_bits.Goals as goal

pub returns : goal.returns
returns c = λ w h. constant-back w h c.packed.result c.args.constant.now c.requires c.packed.ensures
