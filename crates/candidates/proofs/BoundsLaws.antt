-- Steps of the loop that computes the bounds.
use Rattle.std.proofs.Common.{◌≡◌, ℕ, ◌+◌, refl, add-one, Option, None, List, length, get_or, take, ◌<◌, ◌≤◌, arith}
use Rattle.std.specs.List.{All}
use Rattle.std.specs.Prelude.{min}
use Rattle.std.proofs.lemmas.List.{length-take, get_or-take, get_or_default}
use Rattle.astc_model.specs.Places.{Texel}
use Rattle.astc_model.specs.Bounds.{bounds_below, widened_by}

pub bounds_below_more : (texel : ℕ → Option Texel) (p : ℕ) → bounds_below texel (p + 1)
    ≡ widened_by (texel p) (bounds_below texel p)
unfolding bounds_below
bounds_below_more texel p = rw add-one refl

pub bounds_below_none : (texel : ℕ → Option Texel) → bounds_below texel 0 ≡ None
unfolding bounds_below
bounds_below_none texel = refl

-- if each of the first n entries is at most m, so are all entries of this prefix
pub all_of_front : (m : ℕ) (xs : List ℕ) (n : ℕ) → ((k : ℕ) → k < n → get_or xs k 0 ≤ m)
    → All (λ x. x ≤ m) (take n xs)
all_of_front m xs n each = λ k d within.
    let long : k < min n (length xs) = rw (length-take n xs) at within in
    let below : k < n = omega arith in
    let inside : k < length xs = omega arith in
    rw (get_or-take n xs k d below, get_or_default xs k d 0 inside) (each k below)
