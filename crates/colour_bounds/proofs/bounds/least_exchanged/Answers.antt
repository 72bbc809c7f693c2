use Rattle.std.proofs.Common.{ap, sym, ◌∙◌}
use Rattle.error_tables.proofs.RowLaws.{first_given, second_given}
use Rattle.colour_bounds.specs.Bounds.{ends_of}
use Rattle.colour_bounds.proofs.BoundLaws.{first_end_stays, second_end_stays}
use Rattle.colour_bounds.proofs.bounds.least_exchanged.Goals as goal

pub returns-then-place-eq0 : goal.returns-then-place-eq0
returns-then-place-eq0 c = λ value small fall forms.
    first_given c.args.scan.now.tables.now c.args.scan.now.floor c.least_with_first.result
    (ends_of c.args.scan.now.cem c.args.scan.now.values c.args.place value)
    c.ends_with.result.0 forms c.least_with_first.ensures
    (first_end_stays c.args.scan.now.values c.args.place c.requires.eight c.args.scan.now.cem value
    c.requires.exchanging c.requires.place c.if-place-eq0.true small fall
    ∙ ap (λ e. e.0) (sym c.ends_with.ensures))

pub returns-else-place-eq0 : goal.returns-else-place-eq0
returns-else-place-eq0 c = λ value small fall forms.
    second_given c.args.scan.now.tables.now c.args.scan.now.floor c.swapped_floor-swapped.result
    c.least_with_first-else-place-eq0.result
    (ends_of c.args.scan.now.cem c.args.scan.now.values c.args.place value)
    c.ends_with-else-place-eq0.result.1 c.swapped_floor-swapped.ensures.exact forms
    c.least_with_first-else-place-eq0.ensures
    (second_end_stays c.args.scan.now.values c.args.place c.requires.eight c.args.scan.now.cem value
    c.requires.exchanging c.requires.place c.if-place-eq0.false fall
    ∙ ap (λ e. e.1) (sym c.ends_with-else-place-eq0.ensures))
