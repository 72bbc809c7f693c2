use Rattle.std.proofs.Common.{sym, ◌∙◌, ap}
use Rattle.std.proofs.lemmas.List.{take_all}
use Rattle.images.specs.Digests.{digest_start, with_bytes, bytes_in, digest_of}
use Rattle.images.specs.Pictures.{Pictures, bytes_of}
use Rattle.images.proofs.DigestLaws.{no_bytes, level_more}
use Rattle.images.proofs.digests.digest_of.Goals as goal

pub loop-images-init : goal.loop-images-init
loop-images-init c = sym (no_bytes digest_start)

pub loop-images-preserved : goal.loop-images-preserved
loop-images-preserved c =
    level_more digest_start c.loop-images.digest c.with_bytes-digest.result c.args.levels.now
    c.loop-images.images-index c.images-item.result c.raster.result.now c.loop-images-test.true
    c.loop-images.invariant
    (c.raster.ensures.bytes ∙ ap (λ (images : Pictures). bytes_of images.texels) c.images-item.is)
    c.with_bytes-digest.ensures

pub returns : goal.returns
unfolding digest_of
returns c = c.loop-images.invariant ∙ ap (λ levels. with_bytes digest_start (bytes_in levels))
    (take_all c.loop-images.images-index c.args.levels.now c.loop-images-test.false)
