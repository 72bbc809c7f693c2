-- The ranges of the texels in a table of the grid points around them.
use Rattle.std.proofs.Common.{ℕ, ◌*◌, ◌/◌, ◌%◌, ◌<◌, List}
use Rattle.astc_model.proofs.FootprintLaws.{IsSides, is_footprint-sides, column_below, row_below}
use Rattle.weight_infill.specs.Surrounded.{AreAround}
use Rattle.weight_infill.proofs.InfillLaws.{IsTexel}

-- a place of the block has a valid texel position
pub texel_in : (w h n m p : ℕ) (around : List (List (ℕ × ℕ))) → AreAround w h n m (w * h) around
    → p < w * h → IsTexel w h n m (p % w) (p / w)
texel_in w h n m p around are below =
    let sides : IsSides w h = is_footprint-sides w h are.sides in
    record {
      width = sides.most_width;
      height = sides.most_height;
      some_columns = are.some_columns;
      some_rows = are.some_rows;
      columns = are.columns;
      rows = are.rows;
      across = column_below w h p are.sides;
      down = row_below w h p are.sides below;
    }
