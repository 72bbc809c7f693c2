use Rattle.std.proofs.Common.{◌≤◌, ◌*◌, ◌^◌, ◌∙◌, length, rules, arith}
use Rattle.astc_model.specs.declared.level.Digit.TheVariants.{Quint}
use Rattle.ise_codec.proofs.WritingLemmas.{rest_under, rest_inside, written_last, written_step, written_fits}
use Rattle.ise_codec.proofs.writing.+write_quints.Goals as goal

pub returns-then-values-le3 : goal.returns-then-values-le3
returns-then-values-le3 t c =
    written_last Quint c.args.low c.args.values.now c.from-group.result c.if-values-le3.true
    c.requires.under (c.from-group.ensures ∙ c.three_written.ensures)

pub write_quints-requires : goal.write_quints-requires
write_quints-requires t c =
    let long : 3 ≤ length c.args.values.now = omega arith in (
      search rules,
      (
        c.requires.low,
        (
          rest_under (5 * 2 ^ c.args.low) 3 c.args.values.now c.requires.under,
          rest_inside
              Quint c.args.low c.args.values.now long c.requires.inside,
        ),
      ),
    )

pub overflow_add-result-2 : goal.overflow_add-result-2
overflow_add-result-2 t c =
    let values = c.args.values.now in
    let long : 3 ≤ length values = omega arith in
    let step = written_step Quint c.args.low values c.write_quints.result c.from-group.result long
    c.requires.under c.requires.inside c.write_quints.ensures (c.from-group.ensures
    ∙ c.three_written.ensures) in
    omega (arith, step, written_fits Quint c.args.low values c.requires.under c.requires.inside)

pub returns : goal.returns
returns t c =
    let long : 3 ≤ length c.args.values.now = omega arith in
    written_step Quint c.args.low c.args.values.now c.write_quints.result c.from-group.result long
    c.requires.under c.requires.inside c.write_quints.ensures (c.from-group.ensures
    ∙ c.three_written.ensures)
