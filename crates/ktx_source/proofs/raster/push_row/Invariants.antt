use Rattle.std.proofs.Common.{◌≡◌, ◌++◌, length}
use Rattle.images.specs.Pictures.{bytes_of}
use Rattle.ktx_source.specs.Rasters.{from_rgb}
use Rattle.ktx_source.proofs.raster.push_row.Given as goal

-- the texels so far left the rest to be added
abbrev pub invariant-loop-rest : goal.invariant-loop-rest
invariant-loop-rest l = l.texels.items ++ bytes_of (from_rgb l.rest) ≡ l.fn.texels.items ++ bytes_of
    (from_rgb l.row)

abbrev pub decreases-loop-rest : goal.decreases-loop-rest
decreases-loop-rest l = length l.rest
