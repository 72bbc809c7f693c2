use Rattle.std.proofs.Common.{◌≡◌, ◌+◌, ◌*◌, ◌≤◌, ◌∙◌, sym, ap, refl, arith}
use Rattle.std.proofs.Math.Nat.{mul_comm}
use Rattle.std.proofs.lemmas.Nat.{mul-le}
use Rattle.weight_infill.specs.Touched.{touched_below}
use Rattle.astc_model.proofs.FootprintLaws.{IsSides, is_footprint-sides}
use Rattle.weight_infill.proofs.TouchedLaws.{IsGrid, row-is, touched_below-none, touched_inside}
use Rattle.weight_infill.proofs.touching.touched.Given.{Over}
use Rattle.weight_infill.proofs.touching.touched.Goals as goal

pub loop-y-init : goal.loop-y-init
loop-y-init g c =
    let none : 0 * g.row.W ≡ 0 = omega arith in
    rw (c.new-touched.ensures, none)
    (record {
      rows = sym (touched_below-none g.row.W g.row.H c.args.n c.args.m c.args.point);
      few = omega arith;
    })

pub push_row-requires-clause-room : goal.push_row-requires-clause-room
push_row-requires-clause-room g c =
    let sides : IsSides g.row.W g.row.H = is_footprint-sides g.row.W g.row.H c.requires.footprint in
    let rows : (c.loop-y.y + 1) * g.row.W ≤ 12 * 12 = mul-le (c.loop-y.y + 1) g.row.W 12 12
    (omega (arith, sides.most_height)) sides.most_width in
    omega (arith, rows, c.loop-y.invariant.few)

pub loop-y-preserved : goal.loop-y-preserved
loop-y-preserved g c =
    let sides : IsSides g.row.W g.row.H = is_footprint-sides g.row.W g.row.H c.requires.footprint in
    let grid : IsGrid g.row.W g.row.H c.args.n c.args.m = record {
      width = sides.most_width;
      height = sides.most_height;
      some_columns = c.requires.some_columns;
      some_rows = c.requires.some_rows;
      columns = c.requires.columns;
      rows = c.requires.rows;
    } in
    let next : (c.loop-y.y + 1) * g.row.W ≡ c.loop-y.y * g.row.W + g.row.W = omega arith in
    rw next (record {
      rows = c.push_row.ensures.row ∙ rw c.loop-y.invariant.rows
          (sym (row-is g.row.W g.row.H c.args.n c.args.m c.args.point c.loop-y.y
          c.shares_of-across.result c.share_of-down.result grid (omega arith)
          (λ x below. c.shares_of-across.ensures.exact x below
          ∙ rw (c.from.ensures, c.from-2.ensures) refl)
          (c.share_of-down.ensures.exact ∙ rw (c.from-in-loop-y.ensures, c.from-row.ensures) refl)
          g.row.W (omega arith)));
      few = omega (arith, c.push_row.ensures.few, c.loop-y.invariant.few);
    })

-- the texels after the loop over all rows
rows_done : (g : Over) (c : goal.After-loop-y g) → c.loop-y.touched.items
    ≡ touched_below g.row.W g.row.H c.args.n c.args.m c.args.point (g.row.W * g.row.H)
rows_done g c =
    let last : c.loop-y.y ≡ g.row.H = omega arith in
    c.loop-y.invariant.rows ∙ ap (touched_below g.row.W g.row.H c.args.n c.args.m c.args.point)
    (rw last (mul_comm g.row.H g.row.W))

pub returns-clause-exact : goal.returns-clause-exact
returns-clause-exact g c = rows_done g c

pub returns-clause-columns : goal.returns-clause-columns
returns-clause-columns g c =
    let sides : IsSides g.row.W g.row.H = is_footprint-sides g.row.W g.row.H c.requires.footprint in
    rw (rows_done g c) (λ k d below.
    (touched_inside g.row.W g.row.H c.args.n c.args.m c.args.point (g.row.W * g.row.H)
    (omega (arith, sides.least_width)) (omega arith) k d below).0)

pub returns-clause-rows : goal.returns-clause-rows
returns-clause-rows g c =
    let sides : IsSides g.row.W g.row.H = is_footprint-sides g.row.W g.row.H c.requires.footprint in
    rw (rows_done g c) (λ k d below.
    (touched_inside g.row.W g.row.H c.args.n c.args.m c.args.point (g.row.W * g.row.H)
    (omega (arith, sides.least_width)) (omega arith) k d below).1)
