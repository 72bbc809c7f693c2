use Rattle.block_writer.proofs.CodeLemmas.{fields-of_code}
use Rattle.block_writer.proofs.partitions.fields_of_several.Goals as goal

pub returns : goal.returns
returns c =
    fields-of_code c.args.coded.now c.code_of-code.result c.from.result
    c.high_mode_bits-high_bits.result c.field.result c.field-2.result c.requires.fields
    c.requires.several c.code_of-code.ensures c.high_mode_bits-high_bits.ensures.bits
    c.from.ensures c.field.ensures.value c.field-2.ensures.value
