use Rattle.std.proofs.Common.{◌≡◌, sym, ◌∙◌, arith}
use Rattle.ise_codec.proofs.FieldLemmas.{field_of-none, changed_reads, changed_below, changed_above}
use Rattle.ise_codec.proofs.fields.set_field.Goals as goal

pub returns-then-n-eq0-clause-written : goal.returns-then-n-eq0-clause-written
returns-then-n-eq0-clause-written c =
    let none : c.args.n ≡ 0 = omega arith in
    let small : c.args.value ≡ 0 = omega (arith, rw none at c.requires.fits) in
    sym (field_of-none c.args.block c.args.at c.args.n none) ∙ sym small

pub returns-clause-written : goal.returns-clause-written
returns-clause-written c =
    rw c.field-old.ensures.value
    (changed_reads c.args.block c.args.at c.args.n c.args.value c.requires.inside
    c.requires.fits)

pub returns-clause-below : goal.returns-clause-below
returns-clause-below c = λ k lt.
    rw c.field-old.ensures.value
    (changed_below c.args.block c.args.at c.args.n c.args.value k c.requires.inside
    c.requires.fits lt)

pub returns-clause-above : goal.returns-clause-above
returns-clause-above c = λ k le.
    rw c.field-old.ensures.value
    (changed_above c.args.block c.args.at c.args.n c.args.value k c.requires.inside
    c.requires.fits le)
