use Rattle.std.proofs.Common.{◌/◌, ◌^◌, ◌∙◌, ap, arith}
use Rattle.astc_model.specs.Sequences.{sequence}
use Rattle.astc_model.specs.Fields.{weights_at}
use Rattle.block_reader.proofs.ReadingLemmas.{sequence-from_top}
use Rattle.block_reader.proofs.sequences.weights_of.Goals as goal

pub returns : goal.returns
unfolding weights_at
returns c =
    let mode = c.args.mode.now in
    c.read_sequence.ensures.values
    ∙ ap (λ n. sequence (c.reversed.result / 2 ^ 0) mode.level n) c.weight_count.ensures.count
    ∙ sequence-from_top c.args.bits c.reversed.result mode.level _ c.reversed.ensures (omega arith)
