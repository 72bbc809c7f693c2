-- Digests of bytes one after another.
use Rattle.std.proofs.Common.{◌≡◌, ℕ, ◌+◌, ◌<◌, List, [], ◌∷◌, ◌++◌, length, take, refl, sym, ◌∙◌, ap, append-nil}
use Rattle.std.specs.Prelude.{get_or}
use Rattle.std.proofs.lemmas.List.{take_more}
use Rattle.std.proofs.lemmas.Grind.{flat_map-append}
use Rattle.images.specs.Pictures.{Pictures, bytes_of}
use Rattle.images.specs.Digests.{with_byte, with_bytes, bytes_in}

pub no_bytes : (digest : ℕ) → with_bytes digest [] ≡ digest
unfolding with_bytes
no_bytes digest = refl

pub one_byte : (digest byte : ℕ) → with_bytes digest (byte ∷ []) ≡ with_byte digest byte
unfolding with_bytes
one_byte digest byte = refl

pub bytes_on : (digest : ℕ) (xs ys : List ℕ) → with_bytes digest (xs ++ ys)
    ≡ with_bytes (with_bytes digest xs) ys
unfolding with_bytes
bytes_on digest [] ys = refl
bytes_on digest (x ∷ xs) ys = bytes_on (with_byte digest x) xs ys

-- a byte more
pub byte_more : (start now next : ℕ) (bytes : List ℕ) (k : ℕ) → k < length bytes → now
    ≡ with_bytes start (take k bytes) → next ≡ with_byte now (get_or bytes k 0) → next
    ≡ with_bytes start (take (k + 1) bytes)
byte_more start now next bytes k inside so_far is =
    is
    ∙ ap (λ digest. with_byte digest (get_or bytes k 0)) so_far
    ∙ sym (one_byte (with_bytes start (take k bytes)) (get_or bytes k 0))
    ∙ sym (bytes_on start (take k bytes) (get_or bytes k 0 ∷ []))
    ∙ ap (with_bytes start) (sym (take_more bytes k 0 inside))

-- a level more
pub level_more : (start now next : ℕ) (levels : List Pictures) (k : ℕ) (none : Pictures)
    (bytes : List ℕ) → k < length levels → now ≡ with_bytes start (bytes_in (take k levels))
    → bytes ≡ bytes_of (get_or levels k none).texels → next ≡ with_bytes now bytes → next
    ≡ with_bytes start (bytes_in (take (k + 1) levels))
level_more start now next levels k none bytes inside so_far level is =
    let front : List Pictures = take k levels in
    let here : List Pictures = get_or levels k none ∷ [] in
    is
    ∙ ap (λ digest. with_bytes digest bytes) so_far
    ∙ sym (bytes_on start (bytes_in front) bytes)
    ∙ ap (λ xs. with_bytes start (bytes_in front ++ xs))
    (level ∙ sym (append-nil (bytes_of (get_or levels k none).texels)))
    ∙ ap (with_bytes start)
    (sym (flat_map-append (λ (images : Pictures). bytes_of images.texels) front here))
    ∙ ap (λ xs. with_bytes start (bytes_in xs)) (sym (take_more levels k none inside))
