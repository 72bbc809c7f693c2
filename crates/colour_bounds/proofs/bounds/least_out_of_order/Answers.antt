use Rattle.colour_bounds.proofs.BoundLaws.{out_of_order, small_place, above_nothing}
use Rattle.colour_bounds.proofs.bounds.least_out_of_order.Goals as goal

pub returns-then-is_exchanging : goal.returns-then-is_exchanging
returns-then-is_exchanging g c = λ value small out forms.
    c.least_exchanged.ensures value small
    (out_of_order c.args.scan.now.cem c.args.place c.args.scan.now.values
    c.requires.scan.eight_values c.requires.place value
    (small_place c.args.scan.now.cem c.args.place c.requires.scan.mode_fits c.requires.place) small
    (rw c.is_exchanging.ensures at c.if-is_exchanging.true) out)
    forms

pub returns-else-is_exchanging : goal.returns-else-is_exchanging
returns-else-is_exchanging g c = λ value small out forms.
    above_nothing c.args.scan.now.tables.now c.args.scan.now.floor _ forms
