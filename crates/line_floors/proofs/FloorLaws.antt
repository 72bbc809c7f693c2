-- The squared distances of rounded blends are a lower bound on the error.
use Rattle.std.proofs.Common.{◌≡◌, ℕ, zero, suc, ◌+◌, ◌*◌, ◌<◌, ◌≤◌, Bool, true, false, cond, arith}
use Rattle.std.proofs.Math.Nat.{mul-le-mul_left}
use Rattle.astc_model.specs.Sums.{sum_to}
use Rattle.moments.specs.Floors.{IsFloored, IsMost}
use Rattle.line_floors.specs.Floors.{IsUnder}
use Rattle.moments.proofs.FloorLaws.{floored_none, floored_times, floored_plus, floored_law}

pub floored_counted : (g : ℕ) {q e w : ℕ} → IsFloored q 0 e w → IsFloored (g * q) 0 (g * e) (g * w)
floored_counted g {q} {e} {w} is = let none : g * 0 ≡ 0 = omega arith in
    rw none at (floored_times g is)

pub floored_less : {q r e w : ℕ} → r ≤ q → IsFloored q 0 e w → IsFloored r 0 e w
floored_less {q} {r} {e} {w} less is = record {
  form = r;
  distance = is.distance;
  form_is = omega arith;
  moved = omega (arith, less, is.form_is, is.moved);
  spread = is.spread;
}

-- a lower bound on an error is one on a greater error and for a greater total weight
pub floored_more : {q e w more most : ℕ} → e ≤ more → w ≤ most → IsFloored q 0 e w
    → IsFloored q 0 more most
floored_more {q} {e} {w} {more} {most} error weight is = record {
  form = is.form;
  distance = is.distance;
  form_is = is.form_is;
  moved = omega (arith, is.moved, error, weight);
  spread = λ p t. omega (
    arith,
    is.spread p t,
    mul-le-mul_left (t * t) error,
    mul-le-mul_left
        (p * p) weight,
  );
}

-- lower bounds at places add up
pub floored_sum : (q e w : ℕ → ℕ) (n : ℕ) → ((i : ℕ) → i < n → IsFloored (q i) 0 (e i) (w i))
    → IsFloored (sum_to q n) 0 (sum_to e n) (sum_to w n)
unfolding sum_to
floored_sum q e w zero each = floored_none
floored_sum q e w (suc n) each =
    floored_plus (floored_sum q e w n (λ i below. each i (omega arith))) (each n (omega arith))

pub floored_where : (b : Bool) {q e w : ℕ} → IsFloored q 0 e w
    → IsFloored (cond b q 0) 0 (cond b e 0) (cond b w 0)
floored_where true is = is
floored_where false is = floored_none

-- ---- the cutoff

pub cutoff_law : (limit weight root wanted error : ℕ) → wanted ≡ limit
    → weight * wanted ≤ root * root → IsUnder (16 * (4 * wanted + 4 * root + weight)) weight error
    → limit ≤ error
cutoff_law limit weight root wanted error same covered is =
    let far : IsMost (4194304 * (16 * (4 * wanted + 4 * root + weight))) wanted weight =
    record { root = root; covered = covered; enough = omega arith } in
    rw same at (floored_law _ 0 error weight _ wanted is far (omega arith))

-- a smaller distance is a lower bound, too
pub under_less : (few many less more error : ℕ) → few ≤ many → less ≤ more → IsUnder many less error
    → IsUnder few more error
under_less few many less more error fewer lesser is = floored_more (omega arith) lesser
    (floored_less (omega (arith, fewer)) is)
