use Rattle.std.proofs.Common.{◌-◌, ◌∙◌, ap, arith}
use Rattle.std.specs.Int.{bit_at}
use Rattle.block_writer.proofs.WeightLemmas.{turned-bit}
use Rattle.block_writer.proofs.weights.from_top.Goals as goal

pub returns-clause-turned : goal.returns-clause-turned
returns-clause-turned c = λ i below.
    ap (λ x. bit_at x (c.args.width - 1 - i)) c.field.ensures.value
    ∙ turned-bit c.args.sequence c.reversed.result c.args.width i c.reversed.ensures
    (omega arith) below
