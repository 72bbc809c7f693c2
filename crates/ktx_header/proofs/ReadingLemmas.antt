-- Whether there are enough bytes.
use Rattle.std.proofs.Common.{inl, inr, ◌≡◌, ℕ, ◌≤◌, min, Ok, refl, ap, arith}
use Rattle.std.proofs.lemmas.Bool.{cases_lt, lt-ltb, le-ltb}
use Rattle.ktx_header.specs.Levels.{enough}

-- what was taken is enough exactly if the input is
pub enough_told : (wanted n size before : ℕ) → n ≡ min wanted size → enough wanted n before
    ≡ enough wanted size before
enough_told wanted n size before is =
    elim (cases_lt size wanted) [
      | inl less ↦ let same : n ≡ size = omega arith in ap (λ k. enough wanted k before) same
      | inr full ↦ let all : wanted ≤ n = omega arith in
          rw (le-ltb n wanted all, le-ltb size wanted full) refl
    ]

pub enough_ok : (wanted n before : ℕ) → enough wanted n before ≡ Ok tt → wanted ≤ n
enough_ok wanted n before e =
    elim (cases_lt n wanted) [
      | inl less ↦ absurd (cc (rw (lt-ltb n wanted less) at e))
      | inr full ↦ full
    ]
