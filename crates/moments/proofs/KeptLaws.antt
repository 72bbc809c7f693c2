-- The computed moments after one more texel.
use Rattle.std.proofs.Common.{◌≡◌, ℕ, ◌+◌, ◌-◌, ◌*◌, ◌^◌, ◌<◌, ◌≤◌, List, get_or, refl, ap, sym, ◌∙◌, arith}
use Rattle.std.proofs.lemmas.Nat.{mul-le}
use Rattle.astc_model.specs.Sums.{sum_to}
use Rattle.astc_model.proofs.SumLaws.{sum_to-more}
use Rattle.moments.specs.Floors.{target, IsMoments, IsWithin, no_moments, with_texel}
use Rattle.moments.specs.declared.Widening.{Widening}
use Rattle.moments.specs.declared.Moments.{Moments}

pub none : (widening : Widening) (weights wanted : List ℕ)
    → IsMoments widening weights wanted 0 no_moments
unfolding sum_to
none widening weights wanted = record {
  first_squares = refl;
  products = refl;
  second_squares = refl;
  first_targets = refl;
  second_targets = refl;
  target_squares = refl;
}

grown : (f : ℕ → ℕ) (n kept : ℕ) → kept ≡ sum_to f n → kept + f n ≡ sum_to f (n + 1)
grown f n kept same = ap (λ s. s + f n) same ∙ sym (sum_to-more f n)

pub one_more : (widening : Widening) (weights wanted : List ℕ) (n : ℕ) (m : Moments)
    (weight aim : ℕ)
    → IsMoments widening weights wanted n m → weight ≡ get_or weights n 0 → aim
    ≡ target widening (get_or wanted n 0)
    → IsMoments widening weights wanted (n + 1) (with_texel m (64 - weight) weight aim)
one_more widening weights wanted n m weight aim kept weight_is aim_is =
    rw (weight_is, aim_is) (record {
      first_squares = grown (λ i. (64 - get_or weights i 0) * (64 - get_or weights i 0)) n
          m.first_squares kept.first_squares;
      products = grown (λ i. (64 - get_or weights i 0) * get_or weights i 0) n m.products
          kept.products;
      second_squares = grown (λ i. get_or weights i 0 * get_or weights i 0) n m.second_squares
          kept.second_squares;
      first_targets = grown (λ i. (64 - get_or weights i 0) * target widening (get_or wanted i 0)) n
          m.first_targets kept.first_targets;
      second_targets = grown (λ i. get_or weights i 0 * target widening (get_or wanted i 0)) n
          m.second_targets kept.second_targets;
      target_squares = grown (λ i. target widening (get_or wanted i 0) * target widening
          (get_or wanted i 0)) n m.target_squares kept.target_squares;
    })

pub one_within : (n : ℕ) (m : Moments) (first second aim : ℕ) → IsWithin n m → first ≤ 64
    → second ≤ 64 → aim ≤ 4186080
    → IsWithin (n + 1) (with_texel m first second aim)
one_within n m first second aim kept first_small second_small aim_small = record {
  first_squares_within = omega (arith, mul-le first first 64 64 first_small first_small);
  products_within = omega (arith, mul-le first second 64 64 first_small second_small);
  second_squares_within = omega (arith, mul-le second second 64 64 second_small second_small);
  first_targets_within = omega (arith, mul-le first aim 64 4186080 first_small aim_small);
  second_targets_within = omega (arith, mul-le second aim 64 4186080 second_small aim_small);
  target_squares_within = omega (arith, mul-le aim aim 4186080 4186080 aim_small aim_small);
}

-- the product of two endpoints and a moment fits 52 bits
pub product_fits : (a b c : ℕ) → a < 2 ^ 16 → b < 2 ^ 16 → c < 2 ^ 20 → a * b * c ≤ 2 ^ 52
product_fits a b c a_fits b_fits c_fits = mul-le (a * b) c (2 ^ 32) (2 ^ 20)
    (mul-le a b (2 ^ 16) (2 ^ 16) (omega arith) (omega arith)) (omega arith)

-- the ranges for fewer texels are within those for more
pub within_more : (n k : ℕ) (m : Moments) → n ≤ k → IsWithin n m → IsWithin k m
within_more n k m few is = record {
  first_squares_within = omega (arith, is.first_squares_within);
  products_within = omega (arith, is.products_within);
  second_squares_within = omega (arith, is.second_squares_within);
  first_targets_within = omega (arith, is.first_targets_within);
  second_targets_within = omega (arith, is.second_targets_within);
  target_squares_within = omega (arith, is.target_squares_within);
}
