-- The exponent of the greatest power of two in a number.
use Rattle.std.proofs.Common.{◌≡◌, ℕ, zero, suc, ◌*◌, ◌^◌, ◌<◌, ◌≤◌, true, false, sym, arith, inl, inr}
use Rattle.std.specs.Prelude.{nat_le}
use Rattle.std.proofs.Math.Nat.{pow-suc, pow-le-pow_right}
use Rattle.std.proofs.lemmas.Bool.{cases_lt, le-leb, lt-leb}
use Rattle.astc_model.specs.Chains.{exponent_below}

-- an exponent r with 2 ^ r at most n and 2 ^ (r + 1) above n is the greatest
pub exponent_below-is : (k n r : ℕ) → r ≤ k → 2 ^ r ≤ n → n < 2 * 2 ^ r → exponent_below k n ≡ r
exponent_below-is zero n r most le lt = omega arith
exponent_below-is (suc k) n r most le lt =
    elim (cases_lt r (suc k)) [
      | inl less ↦
          let larger : 2 ^ suc r ≤ 2 ^ suc k = pow-le-pow_right {n = 2} (omega arith) less in
          let double : 2 ^ suc r ≡ 2 ^ r * 2 = pow-suc 2 r in
          let test : nat_le (2 ^ suc k) n ≡ false = lt-leb (2 ^ suc k) n (omega arith) in
          rw test (exponent_below-is k n r (omega arith) le lt)
      | inr full ↦
          let same : r ≡ suc k = omega arith in
          let test : nat_le (2 ^ suc k) n ≡ true = le-leb (2 ^ suc k) n (rw same at le) in
          rw test (sym same)
    ]

-- a number of at most 8,192 has an exponent of at most 13
pub exponent_small : (n r : ℕ) → n ≤ 8192 → 2 ^ r ≤ n → r ≤ 13
exponent_small n r small le =
    elim (cases_lt 13 r) [
      | inl large ↦ let more : 2 ^ 14 ≤ 2 ^ r = pow-le-pow_right {n = 2} (omega arith) large in
          absurd (omega arith)
      | inr few ↦ few
    ]
