use Rattle.std.proofs.Common.{◌≡◌, ◌-◌, length, ap, ◌∙◌, arith}
use Rattle.std.proofs.lemmas.List.{length-append}
use Rattle.astc_model.specs.declared.level.Digit.TheVariants.{Quint}
use Rattle.astc_model.specs.Sequences.{values_in, quint_group}
use Rattle.ise_codec.proofs.GroupLaws.{length-group_values}
use Rattle.ise_codec.proofs.ReadingLemmas.{group_step, group_last}
use Rattle.ise_codec.proofs.reading.read_quints.Goals as goal

pub loop-left-preserved : goal.loop-left-preserved
loop-left-preserved c =
    let read : c.three_values.result ≡ quint_group c.args.low c.low_half.result =
    c.three_values.ensures in
    let group = c.three_values.result in
    let items = c.loop-left.values.items in
    let step = group_step Quint c.args.low c.loop-left.left (c.loop-left.left - 3) c.loop-left.rest
    group items (values_in Quint c.args.low c.args.count c.args.bits)
    c.loop-left.invariant.0 (omega arith) (omega arith)
    (read ∙ ap (quint_group c.args.low) c.low_half.ensures)
    in (
      rw c.append.ensures step,
      omega (
        arith,
        ap length c.append.ensures,
        length-append items group,
        ap length read,
        length-group_values Quint c.args.low c.low_half.result,
        c.loop-left.invariant.1,
      ),
    )

pub returns : goal.returns
returns c =
    let read : c.three_values-2.result ≡ quint_group c.args.low c.low_half-2.result =
    c.three_values-2.ensures in
    c.append-2.ensures
    ∙ group_last Quint c.args.low c.loop-left.left c.loop-left.rest c.three_values-2.result
    c.loop-left.values.items (values_in Quint c.args.low c.args.count c.args.bits)
    c.loop-left.invariant.0 (omega arith) (omega arith)
    (read ∙ ap (quint_group c.args.low) c.low_half-2.ensures)
