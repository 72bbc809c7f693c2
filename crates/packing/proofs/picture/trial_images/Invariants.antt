use Rattle.std.proofs.Common.{◌≡◌, ◌*◌, length}
use Rattle.images.specs.Pictures.{bytes_of}
use Rattle.packing.proofs.PictureLaws.{first_texels}
use Rattle.packing.proofs.picture.trial_images.Given as goal

-- the texels so far
abbrev pub invariant-loop-place : goal.invariant-loop-place
invariant-loop-place l = record {
  texels : l.raster.items ≡ bytes_of (first_texels l.fn.number l.fn.width l.fn.height l.place);
  size : length l.raster.items ≡ 4 * l.place;
}
