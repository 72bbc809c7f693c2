-- The digest of images: FNV-1a with 64 bits, over the bytes of their texels.
use Rattle.std.specs.Prelude.{ℕ, ◌*◌, ◌%◌, ◌^◌, bit_xor, List, [], ◌∷◌}
use Rattle.std.specs.List.{flat_map}
use Rattle.images.specs.Pictures.{Pictures, bytes_of}

-- the digest of no bytes
abbrev pub digest_start : ℕ
digest_start = 14695981039346656037

-- with a byte more
abbrev pub with_byte : ℕ → ℕ → ℕ
with_byte digest byte = bit_xor digest byte * 1099511628211 % 2 ^ 64

-- with bytes more
unfoldable pub with_bytes : ℕ → List ℕ → ℕ
with_bytes digest [] = digest
with_bytes digest (byte ∷ bytes) = with_bytes (with_byte digest byte) bytes

-- all bytes of levels, in their order
abbrev pub bytes_in : List Pictures → List ℕ
bytes_in levels = flat_map (λ images. bytes_of images.texels) levels

-- the digest of levels
unfoldable pub digest_of : List Pictures → ℕ
digest_of levels = with_bytes digest_start (bytes_in levels)
