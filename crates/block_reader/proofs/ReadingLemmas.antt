-- Decoded blocks are legal, and the weights are decoded in reverse bit order from the top of the
-- block.
use Rattle.std.proofs.Common.{◌≡◌, ℕ, ◌/◌, ◌^◌, ◌≤◌, List, Result, Ok, Err, IfOk, sym, ◌∙◌, ap, arith}
use Rattle.astc_model.specs.declared.level.Level.{Level}
use Rattle.astc_model.specs.Bits.{number_of, top_field}
use Rattle.astc_model.specs.Levels.{sequence_bits}
use Rattle.astc_model.specs.Sequences.{sequence}
use Rattle.astc_model.specs.declared.block.Block.{Block}
use Rattle.astc_model.specs.declared.block.BlockFault.{BlockFault}
use Rattle.astc_model.specs.Blocks.{Legal}
use Rattle.astc_model.specs.Reading.{read_bits, read}
use Rattle.block_reader.proofs.ReadingLaws.{read-legal}
use Rattle.ise_codec.proofs.ReversalLaws.{IsReversed, field_of-reversed}
use Rattle.ise_codec.proofs.SequenceLaws.{sequence-field_of}

pub legal_if_read : (w h : ℕ) (bytes : List ℕ) (z : ℕ) (result : Result Block BlockFault) → z
    ≡ number_of bytes → result ≡ read_bits w h z → IfOk result (λ block. Legal w h block)
unfolding read
legal_if_read w h bytes z (Ok block) bits same = read-legal w h bytes block (rw bits at (sym same))
legal_if_read w h bytes z (Err fault) bits same = tt

-- a sequence at the low end of the reversed block is the sequence at the top of the block
pub sequence-from_top : (block r : ℕ) (level : Level) (n : ℕ) → IsReversed block r
    → sequence_bits level n ≤ 128 → sequence (r / 2 ^ 0) level n
    ≡ sequence (top_field block 0 (sequence_bits level n)) level n
sequence-from_top block r level n reversed short =
    sym (sequence-field_of r 0 level n) ∙ ap (λ z. sequence z level n)
    (field_of-reversed block r 0 (sequence_bits level n) reversed (omega arith))
