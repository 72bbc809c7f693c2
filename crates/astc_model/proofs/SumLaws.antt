-- Laws of sums and tests over the numbers below n.
use Rattle.std.proofs.Common.{◌≡◌, false, ℕ, zero, suc, ◌+◌, ◌*◌, ◌<◌, ◌≤◌, Bool, true, IsTrue, ◌&&◌, refl, arith, add-one, inl, inr}
use Rattle.std.proofs.lemmas.Bool.{cases_lt}
use Rattle.astc_model.specs.Sums.{sum_to, all_below}

-- a sum over one more number, in the form of a loop's step
pub sum_to-more : (f : ℕ → ℕ) (n : ℕ) → sum_to f (n + 1) ≡ sum_to f n + f n
unfolding sum_to
sum_to-more f n = rw (add-one n) refl

pub sum_to-zero : (f : ℕ → ℕ) → sum_to f 0 ≡ 0
unfolding sum_to
sum_to-zero f = refl

-- two sums with equal terms are equal
pub sum_to-same : (f g : ℕ → ℕ) (n : ℕ) → ((i : ℕ) → i < n → f i ≡ g i) → sum_to f n ≡ sum_to g n
unfolding sum_to
sum_to-same f g zero h = refl
sum_to-same f g (suc n) h =
    let before : sum_to f n ≡ sum_to g n = sum_to-same f g n (λ i lt. h i (omega arith)) in
    let last : f n ≡ g n = h n (omega arith) in
    omega (arith, before, last)

-- n terms of at most m have a sum of at most n times m
pub sum_to-≤ : (f : ℕ → ℕ) (m n : ℕ) → ((i : ℕ) → i < n → f i ≤ m) → sum_to f n ≤ n * m
unfolding sum_to
sum_to-≤ f m zero h = omega arith
sum_to-≤ f m (suc n) h =
    let before : sum_to f n ≤ n * m = sum_to-≤ f m n (λ i lt. h i (omega arith)) in
    let last : f n ≤ m = h n (omega arith) in
    omega (arith, before, last)

-- a sum with smaller terms is smaller
pub sum_to-le-sum_to : (f g : ℕ → ℕ) (n : ℕ) → ((i : ℕ) → i < n → f i ≤ g i)
    → sum_to f n ≤ sum_to g n
unfolding sum_to
sum_to-le-sum_to f g zero h = omega arith
sum_to-le-sum_to f g (suc n) h =
    let before : sum_to f n ≤ sum_to g n = sum_to-le-sum_to f g n (λ i lt. h i (omega arith)) in
    let last : f n ≤ g n = h n (omega arith) in
    omega (arith, before, last)

pub sum_to-add : (f g : ℕ → ℕ) (n : ℕ) → sum_to (λ i. f i + g i) n ≡ sum_to f n + sum_to g n
unfolding sum_to
sum_to-add f g zero = refl
sum_to-add f g (suc n) = omega (arith, sum_to-add f g n)

and_left : (a b : Bool) → IsTrue (a && b) → IsTrue a
and_left true b h = refl
and_left false b h = h

and_right : (a b : Bool) → IsTrue (a && b) → IsTrue b
and_right true b h = h
and_right false b h = (cc)

-- a test that is true for all numbers below n is true for each of them
pub every_below : (p : ℕ → Bool) (n i : ℕ) → IsTrue (all_below p n) → i < n → IsTrue (p i)
every_below p zero i h lt = absurd (omega arith)
every_below p (suc n) i h lt =
    elim (cases_lt i n) [
      | inl below ↦ every_below p n i (and_left (all_below p n) (p n) h) below
      | inr last ↦ let same : i ≡ n = omega arith in rw same (and_right (all_below p n) (p n) h)
    ]
