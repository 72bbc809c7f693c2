use Rattle.std.proofs.Common.{◌≡◌, ◌-◌, ◌*◌, ◌++◌, length}
use Rattle.images.specs.Pictures.{bytes_of}
use Rattle.ktx_source.specs.declared.format.Format.TheVariants.{Rgb8}
use Rattle.ktx_source.specs.Rasters.{row_size, rows_in}
use Rattle.ktx_source.proofs.raster.widened.Given as goal

-- the rows so far left the rest to be added
abbrev pub invariant-loop : goal.invariant-loop
invariant-loop l = record {
  same : l.texels.items ++ bytes_of (rows_in Rgb8 l.width (l.rows - l.counter) l.rest)
      ≡ bytes_of (rows_in Rgb8 l.width l.rows l.bytes);
  size : length l.rest ≡ row_size Rgb8 l.width * (l.rows - l.counter);
}
