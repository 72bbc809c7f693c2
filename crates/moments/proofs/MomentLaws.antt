-- A sum of squared differences is a quadratic form of the two endpoints, whose coefficients are
-- sums over the texels.
use Rattle.std.proofs.Common.{◌≡◌, ℕ, zero, suc, ◌+◌, ◌*◌, arith}
use Rattle.astc_model.specs.Sums.{sum_to}
use Rattle.astc_model.specs.Errors.{squared_difference}
use Rattle.moments.proofs.MeanSquareLaws.{square_law}

-- the equation for one texel
one : (f g u w z q : ℕ) → q + 2 * ((f * u + g * w) * z) ≡ (f * u + g * w) * (f * u + g * w) + z * z
    → q + 2 * (f * (u * z) + g * (w * z))
    ≡ f * f * (u * u) + 2 * (f * g * (u * w)) + g * g * (w * w) + z * z
one f g u w z q law = omega arith

more : (f g q_rest uz_rest wz_rest uu_rest uw_rest ww_rest zz_rest q uz wz uu uw ww zz : ℕ)
    → q_rest + 2 * (f * uz_rest + g * wz_rest)
    ≡ f * f * uu_rest + 2 * (f * g * uw_rest) + g * g * ww_rest + zz_rest
    → q + 2 * (f * uz + g * wz) ≡ f * f * uu + 2 * (f * g * uw) + g * g * ww + zz
    → (q_rest + q) + 2 * (f * (uz_rest + uz) + g * (wz_rest + wz))
    ≡ f * f * (uu_rest + uu) + 2 * (f * g * (uw_rest + uw)) + g * g * (ww_rest + ww)
    + (zz_rest + zz)
more f g q_rest uz_rest wz_rest uu_rest uw_rest ww_rest zz_rest q uz wz uu uw ww zz before last =
    omega arith

pub form_law : (f g : ℕ) (u w z : ℕ → ℕ) (n : ℕ)
    → sum_to (λ i. squared_difference (f * u i + g * w i) (z i)) n + 2 * (f * sum_to
    (λ i. u i * z i) n + g * sum_to (λ i. w i * z i) n)
    ≡ f * f * sum_to (λ i. u i * u i) n + 2 * (f * g * sum_to (λ i. u i * w i) n) + g * g * sum_to
    (λ i. w i * w i) n + sum_to (λ i. z i * z i) n
unfolding sum_to
form_law f g u w z zero = omega arith
form_law f g u w z (suc n) =
    more f g _ _ _ _ _ _ _ _ _ _ _ _ _ _ (form_law f g u w z n)
    (one f g (u n) (w n) (z n) (squared_difference (f * u n + g * w n) (z n))
    (square_law (f * u n + g * w n) (z n)))
