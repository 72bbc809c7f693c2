use Rattle.std.proofs.Common.{ℕ, set, arith}
use Rattle.astc_model.specs.ColourValues.{colour_value}
use Rattle.quant_tables.proofs.ValueLaws.{colour_value-le}
use Rattle.colour_bounds.proofs.BoundTrial.{far_value}
use Rattle.colour_bounds.proofs.OffsetLaws.{offset_turned}
use Rattle.colour_bounds.proofs.TrendLaws.{offsetting_is}
use Rattle.colour_bounds.proofs.own_walk.is_offset_alone.Goals as goal

pub returns-then-offsets_stay : goal.returns-then-offsets_stay
returns-then-offsets_stay g c = λ all value range out.
    let stays = c.offsets_stay.ensures c.if-offsets_stay.true
    (colour_value c.args.scan.now.tables.now.level value)
    (colour_value-le c.args.scan.now.tables.now.level value range) in
    absurd (cc)

pub returns : goal.returns
returns g c = λ far value range out.
    let byte : ℕ = colour_value c.args.scan.now.tables.now.level value in
    let other = offset_turned c.args.trend c.args.scan.now.cem c.args.place
    (set c.args.scan.now.values c.args.place byte)
    (offsetting_is c.args.scan.now.cem c.requires.mode) c.if-place-eq2.false out in
    let form = c.is_trend_far.ensures far byte (rw c.turned.ensures other) in
    rw (← c.requires.scan.kept.total_is)
    (far_value g.row.W g.row.H c.args.scan.now c.args.place value c.requires.scan c.requires.place
    range c.args.scan.now.tables.now.total c.args.scan.now.floor.taken c.args.scan.now.most
    (omega arith) c.requires.scan.enough form)
