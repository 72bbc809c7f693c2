use Rattle.std.proofs.Common.{◌≡◌, ◌∙◌, ap, [], ◌∷◌}
use Rattle.astc_model.specs.declared.level.Digit.TheVariants.{Quint}
use Rattle.astc_model.specs.Sequences.{group_written, quints_packed, least_quints, digit_at}
use Rattle.ise_codec.proofs.WritingLemmas.{digit_small, three_fields}
use Rattle.ise_codec.proofs.writing.three_written.Goals as goal

pub quint_code-q-requires-clause-a : goal.quint_code-q-requires-clause-a
quint_code-q-requires-clause-a c =
    digit_small Quint c.args.low 0 c.args.values.now c.value_at-a.result c.requires.under
    c.value_at-a.ensures

pub quint_code-q-requires-clause-b : goal.quint_code-q-requires-clause-b
quint_code-q-requires-clause-b c =
    digit_small Quint c.args.low 1 c.args.values.now c.value_at-b.result c.requires.under
    c.value_at-b.ensures

pub quint_code-q-requires-clause-c : goal.quint_code-q-requires-clause-c
quint_code-q-requires-clause-c c =
    digit_small Quint c.args.low 2 c.args.values.now c.value_at-c.result c.requires.under
    c.value_at-c.ensures

pub returns : goal.returns
unfolding group_written
returns c =
    let code : c.quint_code-q.result
    ≡ least_quints (digit_at c.args.low c.args.values.now 0
    ∷ digit_at c.args.low c.args.values.now 1 ∷ digit_at c.args.low c.args.values.now 2
    ∷ []) = cc in
    three_fields c.args.low c.quint_code-q.result c.args.values.now c.stacked.result
    c.stacked-group-4.result c.stacked-group-3.result c.stacked-group-2.result
    c.stacked-group.result
    (cc) (cc) (cc) (cc) (cc)
    ∙ ap (λ t. quints_packed c.args.low t c.args.values.now) code
