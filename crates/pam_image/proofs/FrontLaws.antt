-- The first bytes of an image.
use Rattle.std.proofs.Common.{◌≡◌, ℕ, ◌<◌, true, false, List, [], ◌∷◌, length, Err, ◌++◌, refl, arith, lit<}
use Rattle.std.specs.Prelude.{◌==◌}
use Rattle.std.proofs.lemmas.Bool.{eqb-true, ne_eqb}
use Rattle.pam_header.specs.Headers.{header_most, header_of}
use Rattle.pam_image.specs.Reading.{no_image, image_header}

pub image_header-none : (image : ℕ) (front rest : List ℕ) → (length front == 0) ≡ true
    → (length front < header_most → rest ≡ []) → image_header image (front ++ rest)
    ≡ Err (no_image image)
unfolding image_header
image_header-none image [] rest e ended = rw (ended (lit< tt)) refl
image_header-none image (b ∷ front) rest e ended = let none : length (b ∷ front) ≡ 0 =
    eqb-true (length (b ∷ front)) 0 e in absurd (omega arith)

pub image_header-some : (image : ℕ) (front rest : List ℕ) → (length front == 0) ≡ false
    → image_header image (front ++ rest) ≡ header_of image (front ++ rest)
unfolding image_header
image_header-some image [] rest e = absurd (cc)
image_header-some image (b ∷ front) rest e =
    rw (ne_eqb (length (b ∷ (front ++ rest))) 0 (λ none. absurd (omega arith))) refl
