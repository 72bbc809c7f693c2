use Rattle.block_writer.proofs.LayoutLemmas.{layout-fits, fields-laid_out}
use Rattle.block_writer.proofs.coded.bits_under.Goals as goal

pub packed-requires-clause-fit : goal.packed-requires-clause-fit
packed-requires-clause-fit c =
    rw (c.widths_of-widths.ensures, c.values_of-values.ensures)
    (layout-fits c.args.coded.now c.args.mode.now c.args.level _ _ c.requires.sizes
    c.requires.writable c.partition_fields-fields.ensures c.weights_of-weights.ensures)

pub returns : goal.returns
returns c =
    fields-laid_out c.packed.result c.args.coded.now c.args.mode.now c.args.level _ _
    c.requires.sizes c.requires.writable c.partition_fields-fields.ensures
    c.weights_of-weights.ensures
    (rw (c.widths_of-widths.ensures, c.values_of-values.ensures) at c.packed.ensures)
