-- Steps of the search for the closest place, and bounds on products of differences of bytes.
use Rattle.std.proofs.Common.{Option, None, List}
use Rattle.std.specs.Prelude.{slice_index_or}
use Rattle.astc_model.specs.Places.{Texel}
use Rattle.astc_model.specs.Targets.{nearest_inside, nearer_if}
use Rattle.std.proofs.Common.{◌≡◌, ℕ, ◌+◌, ◌*◌, ◌≤◌, suc, refl, add-one, arith, ℤ, pos, negsuc, ◌-ℤ◌, ◌*ℤ◌, ◌≤ℤ◌, mul-le-mul}
use Rattle.std.proofs.lemmas.Int.{ints, unsigned_abs-mul}
use Rattle.std.specs.Int.RustNames.{unsigned_abs}

pub abs_difference : (a b : ℕ) → a ≤ 255 → b ≤ 255 → unsigned_abs (pos a -ℤ pos b) ≤ 255
abs_difference a b h k = omega (arith, ints)

pub low_of_abs : (n : ℕ) (z : ℤ) → unsigned_abs z ≤ suc n → negsuc n ≤ℤ z
low_of_abs n (pos m) h = omega (arith, ints)
low_of_abs n (negsuc m) h = omega (arith, ints)

pub high_of_abs : (n : ℕ) (z : ℤ) → unsigned_abs z ≤ n → z ≤ℤ pos n
high_of_abs n (pos m) h = omega (arith, ints)
high_of_abs n (negsuc m) h = omega (arith, ints)

pub abs_product : (x y : ℤ) (m n : ℕ) → unsigned_abs x ≤ m → unsigned_abs y ≤ n
    → unsigned_abs (x *ℤ y) ≤ m * n
abs_product x y m n h k = rw unsigned_abs-mul (mul-le-mul h k)

pub nearest_inside_more : (far : ℕ → ℕ) (places : List (Option Texel)) (p : ℕ)
    → nearest_inside far places (p + 1) ≡ nearer_if far p (slice_index_or places p None)
    (nearest_inside far places p)
unfolding nearest_inside
nearest_inside_more far places p = rw add-one refl

pub nearest_inside_none : (far : ℕ → ℕ) (places : List (Option Texel)) → nearest_inside far places 0
    ≡ None
unfolding nearest_inside
nearest_inside_none far places = refl
