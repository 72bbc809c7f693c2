use Rattle.std.proofs.Common.{◌≡◌, take}
use Rattle.images.specs.Digests.{with_bytes}
use Rattle.images.proofs.digests.with_bytes.Given as goal

abbrev pub invariant-loop-byte : goal.invariant-loop-byte
invariant-loop-byte l = l.now ≡ with_bytes l.digest (take l.byte-index l.bytes)
