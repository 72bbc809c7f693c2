-- How many bytes texels have.
use Rattle.std.proofs.Common.{◌≡◌, ℕ, zero, suc, ◌+◌, ◌-◌, ◌*◌, ◌≤◌, List, [], ◌∷◌, ◌++◌, length, refl, ap, arith, length-append}
use Rattle.std.proofs.Math.Nat.{mul-suc}
use Rattle.std.proofs.Math.Numerals.{add-one}
use Rattle.pam_image.specs.Reading.{from_grey, from_grey_alpha, from_rgb, widened}

length-from_grey : (n : ℕ) (raster : List ℕ) → length raster ≡ n → length (from_grey raster) ≡ 4 * n
length-from_grey zero [] full = refl
length-from_grey (suc n) (v ∷ rest) full = omega (arith, length-from_grey n rest (omega arith))
length-from_grey zero (v ∷ rest) full = absurd (omega arith)
length-from_grey (suc n) [] full = absurd (omega arith)

length-from_grey_alpha : (n : ℕ) (raster : List ℕ) → length raster ≡ n * 2
    → length (from_grey_alpha raster) ≡ 4 * n
length-from_grey_alpha zero [] full = refl
length-from_grey_alpha (suc n) (v ∷ a ∷ rest) full =
    omega (arith, length-from_grey_alpha n rest (omega arith))
length-from_grey_alpha zero (v ∷ rest) full = absurd (omega arith)
length-from_grey_alpha (suc n) [] full = absurd (omega arith)
length-from_grey_alpha (suc n) (v ∷ []) full = absurd (omega arith)

length-from_rgb : (n : ℕ) (raster : List ℕ) → length raster ≡ n * 3 → length (from_rgb raster)
    ≡ 4 * n
length-from_rgb zero [] full = refl
length-from_rgb (suc n) (r ∷ g ∷ b ∷ rest) full =
    omega (arith, length-from_rgb n rest (omega arith))
length-from_rgb zero (r ∷ rest) full = absurd (omega arith)
length-from_rgb (suc n) [] full = absurd (omega arith)
length-from_rgb (suc n) (r ∷ []) full = absurd (omega arith)
length-from_rgb (suc n) (r ∷ g ∷ []) full = absurd (omega arith)

length-widened : (depth n : ℕ) (raster : List ℕ) → 1 ≤ depth → depth ≤ 4 → length raster ≡ n * depth
    → length (widened depth raster) ≡ 4 * n
unfolding widened
length-widened zero n raster some most full = absurd (omega arith)
length-widened (suc zero) n raster some most full = length-from_grey n raster (omega arith)
length-widened (suc (suc zero)) n raster some most full = length-from_grey_alpha n raster full
length-widened (suc (suc (suc zero))) n raster some most full = length-from_rgb n raster full
length-widened (suc (suc (suc (suc zero)))) n raster some most full = omega arith
length-widened (suc (suc (suc (suc (suc d))))) n raster some most full = absurd (omega arith)

mul-suc' : (a n : ℕ) → a * (n + 1) ≡ a * n + a
mul-suc' a n = rw add-one (mul-suc a n)

-- texels with those of one more raster
pub grown_by : (depth n : ℕ) (raster before now : List ℕ) → 1 ≤ depth → depth ≤ 4 → length raster
    ≡ n * depth → now ≡ before ++ widened depth raster → length now ≡ length before + 4 * n
grown_by depth n raster before now some most full e =
    omega (
      arith,
      ap length e,
      length-append before (widened depth raster),
      length-widened depth n
          raster some most full,
    )

-- one image more
pub grown_on : (area image before so_far now : ℕ) → 1 ≤ image → so_far
    ≡ before + 4 * (area * (image - 1)) → now ≡ so_far + 4 * area → now
    ≡ before + 4 * (area * (image + 1 - 1))
grown_on area image before so_far now some e f =
    let place : image + 1 - 1 ≡ image - 1 + 1 = omega arith in
    rw place (omega (arith, mul-suc' area (image - 1)))

pub grown_all : (area count first now : ℕ) → 1 ≤ count → first ≡ 4 * area → now
    ≡ first + 4 * (area * (count - 1)) → now ≡ 4 * (area * count)
grown_all area count first now some e f =
    let place : count ≡ count - 1 + 1 = omega arith in
    omega (arith, mul-suc' area (count - 1), ap (λ n. area * n) place)
