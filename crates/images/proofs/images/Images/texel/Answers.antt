use Rattle.std.proofs.Common.{◌≡◌, ◌+◌, ◌*◌, ◌<◌, ℕ, rules, refl, sym}
use Rattle.images.proofs.TexelLaws.{four_at, texel_of-inside, texel_at-inside}
use Rattle.images.specs.Pictures.{Pictures, texels_of, texel_of}
use Rattle.images.proofs.images.Images.texel.Goals as goal

pub returns : goal.returns
returns c =
    let w : ℕ = c.self.inside.width in
    let h : ℕ = c.self.inside.height in
    let images : Pictures = record {
      width = w;
      height = h;
      count = c.self.inside.count;
      texels = texels_of c.self.inside.raster.items;
    } in
    let column : c.args.x < w = rw (← c.self.view_is) at c.requires.column in
    let row : c.args.y < h = rw (← c.self.view_is) at c.requires.row in
    let image : c.args.image < c.self.inside.count = rw (← c.self.view_is) at c.requires.image in
    let at : ℕ = 4 * (c.args.image * (w * h) + c.args.y * w + c.args.x) in
    let texel : texel_of images c.args.image c.args.x c.args.y
    ≡ four_at c.self.inside.raster.items at =
    texel_of-inside images c.self.inside.raster.items c.args.image c.args.x c.args.y refl
    (search rules) image column row
    in
    record {
      inside = rw (← c.self.view_is, c.as_slice-raster.ensures.value)
          (texel_at-inside images c.args.image c.args.x c.args.y
          (four_at c.self.inside.raster.items at) column row (sym texel));
      texel = rw (← c.self.view_is, c.as_slice-raster.ensures.value) (sym texel);
    }
