-- A digest of levels has 64 bits.
use Rattle.std.proofs.Common.{ℕ, ◌*◌, ◌^◌, ◌<◌, List, [], ◌∷◌, lit<}
use Rattle.std.specs.Prelude.{bit_xor}
use Rattle.std.proofs.Math.Nat.{mod-lt}
use Rattle.images.specs.Pictures.{Pictures}
use Rattle.images.specs.Digests.{digest_start, with_byte, with_bytes, bytes_in, digest_of}

bytes_fit : (digest : ℕ) (bytes : List ℕ) → digest < 2 ^ 64 → with_bytes digest bytes < 2 ^ 64
unfolding with_bytes
bytes_fit digest [] fits = fits
bytes_fit digest (byte ∷ bytes) fits = bytes_fit (with_byte digest byte) bytes
    (mod-lt (bit_xor digest byte * 1099511628211) (lit< tt))

pub digest_fits : (levels : List Pictures) → digest_of levels < 2 ^ 64
unfolding digest_of
digest_fits levels = bytes_fit digest_start (bytes_in levels) (lit< tt)
