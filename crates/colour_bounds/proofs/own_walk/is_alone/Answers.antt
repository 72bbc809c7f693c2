use Rattle.std.proofs.Common.{ℕ, get_or, set, arith}
use Rattle.std.proofs.lemmas.Bool.{leb-true}
use Rattle.astc_model.specs.ColourValues.{colour_value}
use Rattle.quant_tables.proofs.ValueLaws.{colour_value-le}
use Rattle.colour_bounds.specs.Bounds.{ends_of}
use Rattle.colour_bounds.proofs.BoundTrial.{far_value}
use Rattle.colour_bounds.proofs.PartScanLaws.{forms_of}
use Rattle.colour_bounds.proofs.TrendLaws.{exchanging_is, is_turned, blue_falls}
use Rattle.colour_bounds.proofs.own_walk.is_alone.Goals as goal

pub returns-then-all_stay : goal.returns-then-all_stay
returns-then-all_stay g c = λ all value range out.
    let stays = c.all_stay.ensures c.if-all_stay.true
    (colour_value c.args.scan.now.tables.now.level value)
    (colour_value-le c.args.scan.now.tables.now.level value range) in
    absurd (cc)

pub returns-then-place-eq2 : goal.returns-then-place-eq2
returns-then-place-eq2 g c = λ far value range out.
    let byte : ℕ = colour_value c.args.scan.now.tables.now.level value in
    let fall = blue_falls c.args.trend c.args.scan.now.cem c.args.place
    (set c.args.scan.now.values c.args.place (get_or c.args.scan.now.values c.args.place 0))
    (set c.args.scan.now.values c.args.place byte)
    (exchanging_is c.args.scan.now.cem c.requires.mode) c.if-place-eq2.true c.requires.present
    out in
    let form = c.least_exchanged.ensures byte
    (colour_value-le c.args.scan.now.tables.now.level value range) fall
    (forms_of c.args.scan.now.tables.now c.args.scan.now.reach.now c.args.scan.now.floor
    (ends_of c.args.scan.now.cem c.args.scan.now.values c.args.place byte)
    c.requires.scan.floored) in
    rw (← c.requires.scan.kept.total_is)
    (far_value g.row.W g.row.H c.args.scan.now c.args.place value c.requires.scan c.requires.place
    range c.args.scan.now.tables.now.total c.args.scan.now.floor.taken c.args.scan.now.most
    (omega arith) c.requires.scan.enough (omega (arith, form, leb-true _ _ far)))

pub returns : goal.returns
returns g c = λ far value range out.
    let byte : ℕ = colour_value c.args.scan.now.tables.now.level value in
    let other = is_turned c.args.trend c.args.scan.now.cem c.args.place
    (set c.args.scan.now.values c.args.place byte)
    (exchanging_is c.args.scan.now.cem c.requires.mode) c.if-place-eq2.false out in
    let form = c.is_trend_far.ensures far byte (rw c.turned.ensures other) in
    rw (← c.requires.scan.kept.total_is)
    (far_value g.row.W g.row.H c.args.scan.now c.args.place value c.requires.scan c.requires.place
    range c.args.scan.now.tables.now.total c.args.scan.now.floor.taken c.args.scan.now.most
    (omega arith) c.requires.scan.enough form)
