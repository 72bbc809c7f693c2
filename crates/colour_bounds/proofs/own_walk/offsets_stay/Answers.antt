use Rattle.std.proofs.Common.{sym, ◌∙◌}
use Rattle.colour_bounds.proofs.OffsetLaws.{offsets_stay}
use Rattle.colour_bounds.proofs.TrendLaws.{offsetting_is}
use Rattle.colour_bounds.proofs.own_walk.offsets_stay.Goals as goal

pub returns : goal.returns
returns c = λ on value byte.
    offsets_stay c.args.scan.now.cem c.args.place c.args.scan.now.values c.requires.eight
    (offsetting_is c.args.scan.now.cem c.requires.mode) c.requires.place c.requires.odd value
    c.args.trend
    (rw (c.from.ensures, c.value_against-extreme.ensures) at (sym c.moves_one.ensures ∙ on))
