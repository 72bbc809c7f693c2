-- Rounding changes a decoded channel by at most half a step.
use Rattle.std.proofs.Common.{◌≡◌, ℕ, ◌+◌, ◌-◌, ◌*◌, ◌/◌, ◌^◌, ◌≤◌, arith, inl, inr}
use Rattle.std.proofs.lemmas.Bool.{cases_lt}
use Rattle.std.proofs.Math.Nat.{mul-le-mul}
use Rattle.astc_model.specs.Errors.{squared_difference}
use Rattle.moments.specs.Floors.{shown, factor_of, blend, target, apart}
use Rattle.moments.specs.declared.Widening.{Widening}
use Rattle.moments.specs.declared.Widening.TheVariants.{Repeated, Centred}

-- the distance of the blend from its target for each widening, where n is 64 times the exact value
repeated : (n s : ℕ) → apart (257 * n) (16384 * s + 8160) ≤ 16384 * apart
    ((257 * n + 32) / 64 / 256) s + 8192
repeated n s = omega arith

centred : (n s : ℕ) → apart (256 * n) (16384 * s) ≤ 16384 * apart
    ((256 * n + 8224) / 64 / 256) s + 8192
centred n s = omega arith

repeated_sum : (first second u w : ℕ) → 257 * first * u + 257 * second * w
    ≡ 257 * (first * u + second * w)
repeated_sum first second u w = omega arith

centred_sum : (first second u w : ℕ) → u + w ≡ 64
    → (256 * first + 128) * u + (256 * second + 128) * w + 32
    ≡ 256 * (first * u + second * w) + 8224
centred_sum first second u w whole = omega arith

centred_factor : (first second u w : ℕ) → 256 * first * u + 256 * second * w
    ≡ 256 * (first * u + second * w)
centred_factor first second u w = omega arith

-- the blend is farther from its target than the decoded channel from that of the source by at most
-- half a step
pub near : (widening : Widening) (first second weight wanted : ℕ) → weight ≤ 64
    → apart (blend (factor_of widening * first) (factor_of widening * second) weight)
    (target widening wanted)
    ≤ 16384 * apart (shown widening first second weight) wanted + 8192
near Repeated first second weight wanted fits =
    rw (repeated_sum first second (64 - weight) weight)
    (repeated (first * (64 - weight) + second * weight) wanted)
near Centred first second weight wanted fits =
    let whole : 64 - weight + weight ≡ 64 = omega arith in
    rw (
      centred_factor first second (64 - weight) weight,
      centred_sum first second
          (64 - weight) weight whole,
    )
    (centred (first * (64 - weight) + second * weight) wanted)

-- a squared difference is the square of the distance
pub squared_difference-apart : (a b : ℕ) → squared_difference a b ≡ apart a b * apart a b
squared_difference-apart a b =
    elim (cases_lt a b) [
      | inl less ↦ let none : a - b ≡ 0 = omega arith in rw none (omega arith)
      | inr more ↦ let none : b - a ≡ 0 = omega arith in rw none (omega arith)
    ]

-- the same bound for squares
pub near_square : (x z t s : ℕ) → apart x z ≤ 16384 * apart t s + 8192
    → squared_difference x z ≤ 2 ^ 26 * (4 * squared_difference t s + 4 * apart t s + 1)
near_square x z t s close =
    rw (squared_difference-apart x z, squared_difference-apart t s)
    (over_plain (apart x z) (apart t s) close)
  where
    over_plain : (v d : ℕ) → v ≤ 16384 * d + 8192 → v * v ≤ 2 ^ 26 * (4 * (d * d) + 4 * d + 1)
    over_plain v d close = let squares : v * v ≤ (16384 * d + 8192) * (16384 * d + 8192) =
        mul-le-mul close close in omega arith

-- the decoded byte, from the blend
pub shown_repeated : (first second weight : ℕ) → (257 * blend first second weight + 32) / 16384
    ≡ shown Repeated first second weight
shown_repeated first second weight =
    rw (repeated_sum first second (64 - weight) weight) (omega arith)

pub shown_centred : (first second weight : ℕ) → weight ≤ 64
    → (256 * blend first second weight + 8224) / 16384 ≡ shown Centred first second weight
shown_centred first second weight fits =
    let whole : 64 - weight + weight ≡ 64 = omega arith in
    rw (centred_sum first second (64 - weight) weight whole) (omega arith)
