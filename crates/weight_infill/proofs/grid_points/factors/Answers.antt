use Rattle.std.proofs.Common.{◌≡◌, ℕ, ◌/◌, ◌%◌, map, ◌∙◌, refl}
use Rattle.astc_model.specs.Infill.{factors, corners, corners_at, grid_position, placed}
use Rattle.astc_model.proofs.FootprintLaws.{IsSides, is_footprint-sides}
use Rattle.weight_infill.proofs.InfillLaws.{IsTexel, corners-outside, factors-inside, factors-small, factors-total}
use Rattle.weight_infill.proofs.grid_points.factors.Given.{Over}
use Rattle.weight_infill.proofs.grid_points.factors.Goals as goal

-- the requirements of the call in the form of the laws
texel : (g : Over) (c : goal.After-points_at g)
    → IsTexel g.row.W g.row.H c.args.n c.args.m c.args.s c.args.t
texel g c =
    let sides : IsSides g.row.W g.row.H = is_footprint-sides g.row.W g.row.H c.requires.footprint in
    record {
      width = sides.most_width;
      height = sides.most_height;
      some_columns = c.requires.some_columns;
      some_rows = c.requires.some_rows;
      columns = c.requires.columns;
      rows = c.requires.rows;
      across = c.requires.across;
      down = c.requires.down;
    }

-- the points from the two positions are those of the definition, for any variables equal to the
-- arguments
same_points : (w h n m s t n' m' s' t' x y : ℕ) → n' ≡ n → m' ≡ m → s' ≡ s → t' ≡ t → x
    ≡ grid_position w n' s' → y ≡ grid_position h m' t'
    → map (placed n') (corners_at (x / 16) (y / 16) (x % 16) (y % 16)) ≡ factors w h n m s t
unfolding factors corners
same_points w h n m s t n' m' s' t' x y en em es et ex ey = rw (ex, ey, en, em, es, et) refl

points_are : (g : Over) (c : goal.After-points_at g) → c.points_at.result
    ≡ factors g.row.W g.row.H c.args.n c.args.m c.args.s c.args.t
points_are g c =
    c.points_at.ensures
    ∙ same_points g.row.W g.row.H c.args.n c.args.m c.args.s c.args.t c.from-columns.result
    c.from-2.result c.from.result c.from-3.result c.grid_position-x.result
    c.grid_position-y.result c.from-columns.ensures c.from-2.ensures c.from.ensures
    c.from-3.ensures c.grid_position-x.ensures.position c.grid_position-y.ensures.position

pub returns-clause-points : goal.returns-clause-points
returns-clause-points g c = points_are g c

pub returns-clause-in_grid : goal.returns-clause-in_grid
returns-clause-in_grid g c =
    rw (points_are g c) (factors-inside g.row.W g.row.H c.args.n c.args.m c.args.s c.args.t
    (texel g c))

pub returns-clause-small : goal.returns-clause-small
returns-clause-small g c =
    rw (points_are g c) (factors-small g.row.W g.row.H c.args.n c.args.m c.args.s c.args.t)

pub returns-clause-total : goal.returns-clause-total
returns-clause-total g c =
    rw (points_are g c) (factors-total g.row.W g.row.H c.args.n c.args.m c.args.s c.args.t)

pub returns-clause-none_outside : goal.returns-clause-none_outside
returns-clause-none_outside g c =
    corners-outside g.row.W g.row.H c.args.n c.args.m c.args.s c.args.t (texel g c)
