use Rattle.std.proofs.Common.{◌≡◌, ◌-◌, ◌*◌, ◌++◌, ◌∙◌, take, ap, arith}
use Rattle.images.specs.Pictures.{bytes_of}
use Rattle.ktx_source.specs.declared.format.Format.TheVariants.{Rgb8}
use Rattle.ktx_source.specs.Rasters.{row_size, from_rgb}
use Rattle.ktx_source.proofs.RasterLemmas.{row_on, row_of_piece, row_size_left, rows_end, rows_widened, length_widened}
use Rattle.ktx_source.proofs.raster.widened.Goals as goal

pub loop-preserved : goal.loop-preserved
loop-preserved c =
    let w = c.args.width in
    let row : take (3 * w) c.split_at.result.0.now ≡ take (3 * w) c.loop.rest.now =
    ap (take (3 * w)) c.split_at.ensures.front
    ∙ row_of_piece (3 * w) c.row_size-row_bytes.result c.loop.rest.now
    c.row_size-row_bytes.ensures.all in
    let grown : c.push_row.new.texels.items ≡ c.loop.texels.items ++ bytes_of
    (from_rgb (take (3 * w) c.split_at.result.0.now)) = c.in_ok-push_row.ensures in
    record {
      same = row_on w c.args.rows c.loop.counter c.loop.texels.items c.push_row.new.texels.items _
          c.loop.rest.now c.split_at.result.1.now _ c.loop-test.true row
          (rw c.row_size-row_bytes.ensures.exact at c.split_at.ensures.back) grown
          c.loop.invariant.same;
      size = row_size_left (row_size Rgb8 w) c.args.rows c.loop.counter _ _ c.loop-test.true
          c.loop.invariant.size (rw c.row_size-row_bytes.ensures.exact
          at c.split_at.ensures.back_len);
    }

pub returns-clause-texels : goal.returns-clause-texels
returns-clause-texels c =
    rows_widened c.args.width c.args.rows c.loop.texels.items c.args.bytes.now
    (rows_end c.args.width (c.args.rows - c.loop.counter) c.loop.texels.items c.loop.rest.now _
    (omega arith) c.loop.invariant.same)

pub returns-clause-size : goal.returns-clause-size
returns-clause-size c =
    length_widened c.args.width c.args.rows c.loop.texels.items c.args.bytes.now
    (rows_end c.args.width (c.args.rows - c.loop.counter) c.loop.texels.items c.loop.rest.now _
    (omega arith) c.loop.invariant.same) c.requires.full
