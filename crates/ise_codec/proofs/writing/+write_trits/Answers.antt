use Rattle.std.proofs.Common.{◌≤◌, ◌*◌, ◌^◌, ◌∙◌, length, rules, arith}
use Rattle.astc_model.specs.declared.level.Digit.TheVariants.{Trit}
use Rattle.ise_codec.proofs.WritingLemmas.{rest_under, rest_inside, written_last, written_step, written_fits}
use Rattle.ise_codec.proofs.writing.+write_trits.Goals as goal

pub returns-then-values-le5 : goal.returns-then-values-le5
returns-then-values-le5 t c =
    written_last Trit c.args.low c.args.values.now c.from-group.result c.if-values-le5.true
    c.requires.under (c.from-group.ensures ∙ c.five_written.ensures)

pub write_trits-requires : goal.write_trits-requires
write_trits-requires t c =
    let long : 5 ≤ length c.args.values.now = omega arith in (
      search rules,
      (
        c.requires.low,
        (
          rest_under (3 * 2 ^ c.args.low) 5 c.args.values.now c.requires.under,
          rest_inside
              Trit c.args.low c.args.values.now long c.requires.inside,
        ),
      ),
    )

pub overflow_add-result-2 : goal.overflow_add-result-2
overflow_add-result-2 t c =
    let values = c.args.values.now in
    let long : 5 ≤ length values = omega arith in
    let step = written_step Trit c.args.low values c.write_trits.result c.from-group.result long
    c.requires.under c.requires.inside c.write_trits.ensures (c.from-group.ensures
    ∙ c.five_written.ensures) in
    omega (arith, step, written_fits Trit c.args.low values c.requires.under c.requires.inside)

pub returns : goal.returns
returns t c =
    let long : 5 ≤ length c.args.values.now = omega arith in
    written_step Trit c.args.low c.args.values.now c.write_trits.result c.from-group.result long
    c.requires.under c.requires.inside c.write_trits.ensures (c.from-group.ensures
    ∙ c.five_written.ensures)
