use Rattle.std.proofs.Common.{◌≡◌, ◌+◌, ◌<◌, ◌≤◌, arith, inl, inr}
use Rattle.astc_model.specs.Levels.{count_of}
use Rattle.astc_model.specs.ColourValues.{colour_value}
use Rattle.texel_error.specs.Shown.{Ends}
use Rattle.colour_bounds.specs.Curves.{curve_more, curve_less}
use Rattle.error_tables.specs.Floors.{form_more, form_less}
use Rattle.colour_bounds.specs.Bounds.{ends_of}
use Rattle.colour_bounds.proofs.BoundLaws.{far_by_bounds}
use Rattle.colour_bounds.proofs.BoundTrial.{far_value}
use Rattle.colour_bounds.proofs.ValueLaws.{whole_value}
use Rattle.colour_bounds.proofs.PartScanLaws.{forms_of}
use Rattle.colour_bounds.proofs.bounds.values_to_try.Goals as goal

pub returns-clause-others : goal.returns-clause-others
returns-clause-others g c = λ value range out.
    let whole : count_of c.args.scan.now.tables.now.level ≡ 256 =
    c.is_bounded.ensures.level c.if-not-is_bounded.false in
    let least : c.args.scan.now.most ≤ c.args.bounds.now.least =
    c.is_bounded.ensures.least c.if-not-is_bounded.false in
    let small : value < 256 = omega (arith, range, whole) in
    let on : c.args.bounds.now.from ≤ value → value < c.args.bounds.now.before
    → curve_less c.args.bounds.now.curve value + c.args.scan.now.most ≤ curve_more
    c.args.bounds.now.curve value =
    λ above below. elim out [
      | inl low ↦ c.first_near.ensures.far value above low
      | inr high ↦ c.first_far.ensures.far value (omega arith) high below
    ]
    in
    let ends : Ends = ends_of c.args.scan.now.cem c.args.scan.now.values c.args.place value in
    let far : form_less c.args.scan.now.tables.now c.args.scan.now.floor ends + c.args.scan.now.most
    ≤ form_more c.args.scan.now.tables.now c.args.scan.now.floor ends =
    far_by_bounds c.args.scan.now c.args.place value c.args.scan.now.most c.args.bounds.now
    c.requires.bounds (omega arith) on (λ side. least)
    (forms_of c.args.scan.now.tables.now c.args.scan.now.reach.now c.args.scan.now.floor ends
    c.requires.scan.floored)
    in
    let same : colour_value c.args.scan.now.tables.now.level value ≡ value =
    whole_value c.args.scan.now.tables.now.level value whole small in
    rw (← c.requires.scan.kept.total_is)
    (far_value g.row.W g.row.H c.args.scan.now c.args.place value c.requires.scan c.requires.place
    range c.args.scan.now.tables.now.total c.args.scan.now.floor.taken c.args.scan.now.most
    (omega arith) c.requires.scan.enough (rw same far))
