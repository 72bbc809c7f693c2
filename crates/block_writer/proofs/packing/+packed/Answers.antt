use Rattle.std.proofs.Common.{arith}
use Rattle.block_writer.proofs.PackingLemmas.{packed-none, packed-step, packed-small}
use Rattle.block_writer.proofs.packing.+packed.Goals as goal

pub overflow_add-result : goal.overflow_add-result
overflow_add-result t c =
    let step = packed-step c.args.widths.now c.args.values.now c.packed.result c.requires.fit
    c.requires.room (omega arith) c.packed.ensures in
    omega (
      arith,
      step,
      packed-small c.args.widths.now c.args.values.now c.requires.fit
          c.requires.room,
    )

pub returns-in-len1-up : goal.returns-in-len1-up
returns-in-len1-up t c =
    packed-step c.args.widths.now c.args.values.now c.packed.result c.requires.fit c.requires.room
    (omega arith) c.packed.ensures

pub returns-in_default : goal.returns-in_default
returns-in_default t c = packed-none c.args.widths.now c.args.values.now (omega arith)
