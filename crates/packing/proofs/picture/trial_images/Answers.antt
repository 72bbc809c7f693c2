use Rattle.std.proofs.Common.{◌∙◌, rules, arith}
use Rattle.packing.proofs.PictureLaws.{texels_more, picture-is}
use Rattle.packing.proofs.picture.trial_images.Goals as goal

pub loop-place-preserved : goal.loop-place-preserved
loop-place-preserved c = record {
  texels = texels_more c.args.number c.args.width c.args.height c.loop-place.place _ _
      c.texel.result c.loop-place.invariant.texels c.texel.ensures
      c.in_ok-extend_from_slice.ensures.items;
  size = search rules;
}

pub returns : goal.returns
returns c =
    c.from_raster.ensures.images
    ∙ picture-is c.args.number c.args.width c.args.height c.loop-place.place
    c.loop-place.raster.items c.loop-place.invariant.texels (omega arith)
