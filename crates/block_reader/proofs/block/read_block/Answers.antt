use Rattle.block_reader.proofs.ReadingLemmas.{legal_if_read}
use Rattle.block_reader.proofs.block.read_block.Goals as goal

pub returns-clause-legal : goal.returns-clause-legal
returns-clause-legal g c =
    legal_if_read _ _ c.args.bytes.now c.bits_of_bytes.result c.block_of_bits.result
    c.bits_of_bytes.ensures c.block_of_bits.ensures
