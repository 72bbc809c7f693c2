-- Targets are computed by a product with an inverse, instead of a division.
use Rattle.std.proofs.Common.{◌≡◌, ℕ, zero, suc, ◌+◌, ◌-◌, ◌*◌, ◌/◌, ◌%◌, ◌^◌, ◌<◌, ◌≤◌, ◌==◌, min, max, Bool, true, false, refl, sym, ap, ◌∙◌, arith, inl, inr, mul-le-mul, mul-le-mul_right, ℤ, pos, negsuc, ◌*ℤ◌}
use Rattle.std.proofs.Math.IntN.{*ℤ-zero}
use Rattle.std.proofs.lemmas.Bool.{cases_lt, ne_eqb}
use Rattle.std.proofs.lemmas.Nat.{div_below, le-div}
use Rattle.astc_model.specs.Places.{Texel, channel}
use Rattle.astc_model.specs.Candidates.{Ends}
use Rattle.astc_model.specs.Targets.{difference, along, along_if, num, is_of_plane, quotient, target}
use Rattle.candidates.specs.Axes.{rise, axis_of, num_on, within}

-- ---- the division

-- the product with m, an inverse of d in units of 2^-46 that is too large by little, gives the
-- quotient a of d * a + b
by_parts : (d m a b e : ℕ) → d * m ≡ 70368744177664 + e → e ≤ d → b < d → d ≤ 260100 → a ≤ 65
    → (d * a + b) * m / 70368744177664 ≡ a
by_parts d m a b e whole little part small few =
    let split : (d * a + b) * m ≡ 70368744177664 * a + (a * e + b * m) =
    omega (arith, ap (λ t. a * t) whole) in
    let beyond : a * e ≤ 65 * e = mul-le-mul_right e few in
    let less : suc b * m ≤ d * m = mul-le-mul_right m part in
    let long : d * m ≤ 260100 * m = mul-le-mul_right m small in
    let rest : a * e + b * m < 70368744177664 =
    omega (arith, beyond, less, long, whole, little, small) in
    rw split (over (a * e + b * m) rest)
  where
    over : (r : ℕ) → r < 70368744177664 → (70368744177664 * a + r) / 70368744177664 ≡ a
    over r below = omega arith

pub divided_law : (x d : ℕ) → 0 < d → d ≤ 260100 → x ≤ 65 * d
    → x * (70368744177664 / d + 1) / 70368744177664 ≡ x / d
divided_law x d some small few =
    let q : ℕ = 70368744177664 / d in
    let r : ℕ = 70368744177664 % d in
    let near : d * q + r ≡ 70368744177664 = omega arith in
    let part : r < d = omega arith in
    let whole : d * (q + 1) ≡ 70368744177664 + (d - r) = omega (arith, near, part) in
    let own : d * (x / d) + x % d ≡ x = omega arith in
    let over : x % d < d = omega arith in
    let at_most : x / d ≤ 65 = omega (arith, div_below x d 66 some (omega (arith, few, some))) in
    ap (λ t. t * (q + 1) / 70368744177664) (sym own) ∙ by_parts d (q + 1) (x / d) (x % d)
    (d - r) whole (omega arith) over small at_most

-- the product does not overflow 64 bits
pub divided_fits : (x d : ℕ) → 0 < d → d ≤ 260100 → x ≤ 65 * d
    → x * (70368744177664 / d + 1) < 2 ^ 64
divided_fits x d some small few =
    let q : ℕ = 70368744177664 / d in
    let near : d * q ≤ 70368744177664 = omega arith in
    let most : x * (q + 1) ≤ 65 * d * (q + 1) = mul-le-mul_right (q + 1) few in
    omega (arith, most, near, small)

-- ---- the quotient

-- the clamped quotient for n within 0 to d
below_all : (n d : ℕ) → n ≤ suc d → (64 * n + suc d / 2) / suc d
    ≡ min 64 ((64 * n + suc d / 2) / suc d)
below_all n d fits =
    let few : (64 * n + suc d / 2) / suc d < 65 = div_below (64 * n + suc d / 2) (suc d) 65
    (omega arith) (omega (arith, fits)) in
    omega (arith, few)

-- the clamped quotient for n above d
above_all : (n d : ℕ) → suc d ≤ n → (64 * suc d + suc d / 2) / suc d
    ≡ min 64 ((64 * n + suc d / 2) / suc d)
above_all n d more =
    let few : (64 * suc d + suc d / 2) / suc d < 65 = div_below (64 * suc d + suc d / 2) (suc d) 65
    (omega arith) (omega arith) in
    let own : 64 ≤ (64 * suc d + suc d / 2) / suc d = le-div 64 (64 * suc d + suc d / 2) (suc d)
    (omega arith) (omega arith) in
    let whole : 64 ≤ (64 * n + suc d / 2) / suc d = le-div 64 (64 * n + suc d / 2) (suc d)
    (omega arith) (omega (arith, more)) in
    omega (arith, few, own, whole)

quotient_law : (n : ℤ) (d : ℕ) → (64 * within n d + d / 2) / max d 1 ≡ quotient n d
quotient_law (negsuc n) zero = refl
quotient_law (negsuc n) (suc d) =
    let same : max (suc d) 1 ≡ suc d = omega arith in
    let none : (64 * 0 + suc d / 2) / suc d < 1 = div_below (64 * 0 + suc d / 2) (suc d) 1
    (omega arith) (omega arith) in
    rw same (omega (arith, none))
quotient_law (pos n) zero =
    let none : min n 0 ≡ 0 = omega arith in
    rw none refl
quotient_law (pos n) (suc d) =
    let same : max (suc d) 1 ≡ suc d = omega arith in
    let some : (suc d == 0) ≡ false = ne_eqb (suc d) 0 (λ none. absurd (omega (arith, none))) in
    rw (same, some) (elim (cases_lt (suc d) n) [
      | inl more ↦ let all : min n (suc d) ≡ suc d = omega arith in
          rw all (above_all n d (omega arith))
      | inr fits ↦ let own : min n (suc d) ≡ n = omega arith in rw own (below_all n d fits)
    ])

-- the quotient in the form of the code
pub quotient_by : (n : ℤ) (d inside half most found : ℕ) → inside ≡ within n d → half ≡ d / 2 → most
    ≡ max d 1 → found ≡ (64 * inside + half) / most → found ≡ quotient n d
quotient_by n d inside half most found inside_is half_is most_is found_is =
    rw (found_is, inside_is, half_is, most_is) (quotient_law n d)

-- ---- along the axis

one_channel : (counts : Bool) (q e0 e1 : Texel) (c : ℕ)
    → difference (channel c q) (channel c e0) *ℤ rise counts e0 e1 c ≡ along_if counts q e0 e1 c
unfolding along
one_channel true q e0 e1 c = refl
one_channel false q e0 e1 c = *ℤ-zero (difference (channel c q) (channel c e0))

pub axis_num : (component plane : ℕ) (ends : Ends) (q : Texel)
    → num_on (axis_of component plane ends) q ≡ num component plane q ends.0 ends.1
unfolding axis_of num
axis_num component plane ends q =
    rw (
      one_channel (is_of_plane component plane 0) q ends.0 ends.1 0,
      one_channel (is_of_plane component plane 1) q ends.0 ends.1 1,
      one_channel (is_of_plane component plane 2) q ends.0 ends.1 2,
      one_channel (is_of_plane component plane 3) q ends.0 ends.1 3,
    ) refl

pub axis_target : (component plane : ℕ) (ends : Ends) (q : Texel)
    → quotient (num_on (axis_of component plane ends) q) (axis_of component plane ends).length
    ≡ target component plane q ends.0 ends.1
unfolding axis_of target
axis_target component plane ends q = ap (λ n. quotient n (axis_of component plane ends).length)
    (axis_num component plane ends q)
