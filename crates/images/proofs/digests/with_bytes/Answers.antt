use Rattle.std.proofs.Common.{sym}
use Rattle.images.proofs.DigestLaws.{no_bytes, byte_more}
use Rattle.images.proofs.digests.with_bytes.Goals as goal

pub loop-byte-init : goal.loop-byte-init
loop-byte-init c = sym (no_bytes c.args.digest)

pub loop-byte-preserved : goal.loop-byte-preserved
loop-byte-preserved c =
    byte_more c.args.digest c.loop-byte.now c.with_byte-now.result c.args.bytes.now
    c.loop-byte.byte-index c.loop-byte-test.true c.loop-byte.invariant c.with_byte-now.ensures
