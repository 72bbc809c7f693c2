use Rattle.std.proofs.Common.{◌≡◌, ◌∙◌, ap, [], ◌∷◌}
use Rattle.astc_model.specs.declared.level.Digit.TheVariants.{Trit}
use Rattle.astc_model.specs.Sequences.{group_written, trits_packed, least_trits, digit_at}
use Rattle.ise_codec.proofs.WritingLemmas.{digit_small, five_fields}
use Rattle.ise_codec.proofs.writing.five_written.Goals as goal

pub trit_code-t-requires-clause-a : goal.trit_code-t-requires-clause-a
trit_code-t-requires-clause-a c =
    digit_small Trit c.args.low 0 c.args.values.now c.value_at-a.result c.requires.under
    c.value_at-a.ensures

pub trit_code-t-requires-clause-b : goal.trit_code-t-requires-clause-b
trit_code-t-requires-clause-b c =
    digit_small Trit c.args.low 1 c.args.values.now c.value_at-b.result c.requires.under
    c.value_at-b.ensures

pub trit_code-t-requires-clause-c : goal.trit_code-t-requires-clause-c
trit_code-t-requires-clause-c c =
    digit_small Trit c.args.low 2 c.args.values.now c.value_at-c.result c.requires.under
    c.value_at-c.ensures

pub trit_code-t-requires-clause-d : goal.trit_code-t-requires-clause-d
trit_code-t-requires-clause-d c =
    digit_small Trit c.args.low 3 c.args.values.now c.value_at-d.result c.requires.under
    c.value_at-d.ensures

pub trit_code-t-requires-clause-e : goal.trit_code-t-requires-clause-e
trit_code-t-requires-clause-e c =
    digit_small Trit c.args.low 4 c.args.values.now c.value_at-e.result c.requires.under
    c.value_at-e.ensures

pub returns : goal.returns
unfolding group_written
returns c =
    let code : c.trit_code-t.result
    ≡ least_trits (digit_at c.args.low c.args.values.now 0
    ∷ digit_at c.args.low c.args.values.now 1 ∷ digit_at c.args.low c.args.values.now 2
    ∷ digit_at c.args.low c.args.values.now 3 ∷ digit_at c.args.low c.args.values.now 4
    ∷ []) = cc in
    five_fields c.args.low c.trit_code-t.result c.args.values.now c.stacked.result
    c.stacked-group-8.result c.stacked-group-7.result c.stacked-group-6.result
    c.stacked-group-5.result c.stacked-group-4.result c.stacked-group-3.result
    c.stacked-group-2.result c.stacked-group.result
    (cc) (cc) (cc) (cc) (cc) (cc) (cc) (cc) (cc)
    ∙ ap (λ t. trits_packed c.args.low t c.args.values.now) code
