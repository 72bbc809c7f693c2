use Rattle.std.proofs.Common.{◌≡◌, ◌+◌, ◌*◌, ◌<◌, ◌/◌, ◌%◌, arith, refl, ap, ◌∙◌, mul_comm}
use Rattle.std.specs.Prelude.{slice_index}
use Rattle.candidates.specs.Sides.{nearest_on_side, place_of_sides}
use Rattle.astc_model.proofs.FootprintLaws.{IsSides, is_footprint-sides, sides_few}
use Rattle.candidates.proofs.SideLaws.{side_place, point_row, place_within}
use Rattle.candidates.proofs.sides.place_of_sides.Goals as goal

pub returns-clause-place : goal.returns-clause-place
unfolding place_of_sides
returns-clause-place g c =
    let row : slice_index c.args.rows.now (c.args.k / c.args.n)
    ≡ nearest_on_side g.row.H c.args.m c.args.n (c.args.k / c.args.n) =
    side_place g.row.H c.args.m c.args.n (c.args.k / c.args.n) c.args.rows.now c.requires.rows
    (point_row c.args.k c.args.n c.args.m c.requires.some_columns c.requires.point) in
    let column : slice_index c.args.columns.now (c.args.k % c.args.n)
    ≡ nearest_on_side g.row.W c.args.n c.args.m (c.args.k % c.args.n) =
    side_place g.row.W c.args.n c.args.m (c.args.k % c.args.n) c.args.columns.now c.requires.columns
    (omega (arith, c.requires.some_columns)) in
    let down : c.from-2.result ≡ nearest_on_side g.row.H c.args.m c.args.n (c.args.k / c.args.n) =
    c.from-2.ensures ∙ ap (λ i. slice_index c.args.rows.now i) c.from.ensures ∙ row in
    let across : c.from-4.result ≡ nearest_on_side g.row.W c.args.n c.args.m (c.args.k % c.args.n) =
    c.from-4.ensures ∙ ap (λ i. slice_index c.args.columns.now i) c.from-3.ensures ∙ column in
    rw (down, across) refl

pub returns-clause-within : goal.returns-clause-within
returns-clause-within g c =
    let sides : IsSides g.row.W g.row.H = is_footprint-sides g.row.W g.row.H c.requires.footprint in
    let is : c.from-2.result * g.row.W + c.from-4.result
    ≡ place_of_sides g.row.W g.row.H c.args.n c.args.m c.args.k = returns-clause-place g c in
    let below : place_of_sides g.row.W g.row.H c.args.n c.args.m c.args.k < g.row.H * g.row.W =
    place_within g.row.W g.row.H c.args.n c.args.m c.args.k (omega (arith, sides.least_width))
    (omega (arith, sides.least_height)) in
    omega (
      arith,
      is,
      below,
      sides_few g.row.W g.row.H c.requires.footprint,
      mul_comm g.row.W
          g.row.H,
    )
