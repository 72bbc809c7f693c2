use Rattle.std.proofs.Common.{arith}
use Rattle.block_writer.proofs.CodeLemmas.{code-of_one_mode, code-of_classes}
use Rattle.block_writer.proofs.partitions.code_of.Goals as goal

pub returns-then-coded-eq0 : goal.returns-then-coded-eq0
returns-then-coded-eq0 c =
    code-of_one_mode c.args.coded.now c.from.result c.requires.fields c.requires.spares
    c.requires.several c.if-coded-eq0.true c.from.ensures

pub returns-else-coded-eq0 : goal.returns-else-coded-eq0
returns-else-coded-eq0 c =
    code-of_classes c.args.coded.now c.packed.result c.requires.fields c.requires.spares
    c.requires.several (omega (arith, c.if-coded-eq0.false))
    (rw (c.widths_of_code.ensures, c.values_of_code.ensures) at c.packed.ensures)
