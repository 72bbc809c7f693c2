-- The header of an image is that of its first 4,096 bytes.
use Rattle.std.proofs.Common.{◌≡◌, ℕ, ◌<◌, ◌≤◌, List, [], ◌++◌, length, take, refl, ◌∙◌, ap, arith, length-append, inl, inr}
use Rattle.std.proofs.lemmas.Bool.{cases_lt, le-ltb}
use Rattle.std.proofs.lemmas.List.{append-nil}
use Rattle.std.proofs.Math.Seq.{take_all, take-append_seam}
use Rattle.pam_header.specs.declared.header.Ending.{Ending}
use Rattle.pam_header.specs.declared.header.Ending.TheVariants.{Whole, Faulty, Unfinished}
use Rattle.pam_header.specs.Headers.{header_most, header_in, settled, header_of}

settled-long : (image a b : ℕ) (ending : Ending) → 4096 ≤ a → 4096 ≤ b → settled image a ending
    ≡ settled image b ending
settled-long image a b (Whole found) long longer = refl
settled-long image a b (Faulty fault) long longer = refl
settled-long image a b Unfinished long longer = rw (le-ltb a 4096 long, le-ltb b 4096 longer) refl

-- whether the rest was looked at or not
pub header_of-front : (image : ℕ) (front rest : List ℕ) → length front ≤ header_most
    → (length front < header_most → rest ≡ [])
    → header_of image (front ++ rest) ≡ settled image (length front) (header_in image front)
unfolding header_of
header_of-front image front rest short ended =
    elim (cases_lt (length front) 4096) [
      | inl less ↦ rw (ended less, append-nil front, take_all 4096 front short) refl
      | inr full ↦
          let all : 4096 ≡ length front = omega arith in
          ap (λ n. settled image (length (front ++ rest))
          (header_in image (take n (front ++ rest)))) all
          ∙ ap (λ xs. settled image (length (front ++ rest)) (header_in image xs))
          (take-append_seam front rest)
          ∙ settled-long image (length (front ++ rest)) (length front) (header_in image front)
          (omega (arith, length-append front rest)) full
    ]
