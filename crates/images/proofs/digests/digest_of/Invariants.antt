use Rattle.std.proofs.Common.{◌≡◌, take}
use Rattle.images.specs.Digests.{digest_start, with_bytes, bytes_in}
use Rattle.images.proofs.digests.digest_of.Given as goal

abbrev pub invariant-loop-images : goal.invariant-loop-images
invariant-loop-images l = l.digest
    ≡ with_bytes digest_start (bytes_in (take l.images-index l.levels))
