use Rattle.std.proofs.Common.{ap, ◌∙◌, ◌*◌, length, refl}
use Rattle.candidates.proofs.PieceLaws.{grid_within, length-grid_places}
use Rattle.listed_walk.specs.GridTables.{columns_at, rows_at}
use Rattle.listed_walk.proofs.InsideLaws.{some_inside}
use Rattle.listed_walk.proofs.PatternLaws.{grids_within}
use Rattle.listed_walk.proofs.known.PatternGrids.of.Goals as goal

pub returns : goal.returns
returns g c = record {
  all = c.grids_by_sides.ensures.all;
  points = λ k below at. ap length (c.grids_by_sides.ensures.each k below at)
      ∙ length-grid_places g.row.W g.row.H (columns_at k) (rows_at k) _;
  inside = λ k below at j p is.
      some_inside (g.row.W * g.row.H) _ (rw (c.grids_by_sides.ensures.each k below at)
      (grid_within g.row.W g.row.H (columns_at k) (rows_at k) (g.row.W * g.row.H) _ refl)) j p is;
  within = λ places inside.
      grids_within g.row.W g.row.H c.args.pattern.columns c.args.pattern.rows _ places
      c.grids_by_sides.result.items c.places-inside.ensures inside
      c.grids_by_sides.ensures;
}
