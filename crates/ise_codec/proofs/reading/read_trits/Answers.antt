use Rattle.std.proofs.Common.{◌≡◌, ◌-◌, length, ap, ◌∙◌, arith}
use Rattle.std.proofs.lemmas.List.{length-append}
use Rattle.astc_model.specs.declared.level.Digit.TheVariants.{Trit}
use Rattle.astc_model.specs.Sequences.{values_in, trit_group}
use Rattle.ise_codec.proofs.GroupLaws.{length-group_values}
use Rattle.ise_codec.proofs.ReadingLemmas.{group_step, group_last}
use Rattle.ise_codec.proofs.reading.read_trits.Goals as goal

pub loop-left-preserved : goal.loop-left-preserved
loop-left-preserved c =
    let read : c.five_values.result ≡ trit_group c.args.low c.low_half.result =
    c.five_values.ensures in
    let group = c.five_values.result in
    let items = c.loop-left.values.items in
    let step = group_step Trit c.args.low c.loop-left.left (c.loop-left.left - 5) c.loop-left.rest
    group items (values_in Trit c.args.low c.args.count c.args.bits)
    c.loop-left.invariant.0 (omega arith) (omega arith)
    (read ∙ ap (trit_group c.args.low) c.low_half.ensures)
    in (
      rw c.append.ensures step,
      omega (
        arith,
        ap length c.append.ensures,
        length-append items group,
        ap length read,
        length-group_values Trit c.args.low c.low_half.result,
        c.loop-left.invariant.1,
      ),
    )

pub returns : goal.returns
returns c =
    let read : c.five_values-2.result ≡ trit_group c.args.low c.low_half-2.result =
    c.five_values-2.ensures in
    c.append-2.ensures
    ∙ group_last Trit c.args.low c.loop-left.left c.loop-left.rest c.five_values-2.result
    c.loop-left.values.items (values_in Trit c.args.low c.args.count c.args.bits)
    c.loop-left.invariant.0 (omega arith) (omega arith)
    (read ∙ ap (trit_group c.args.low) c.low_half-2.ensures)
