-- Lower bounds on the error in one channel, in a channel with a weight, and in several channels.
use Rattle.std.proofs.Common.{◌≡◌, ℕ, zero, suc, ◌+◌, ◌-◌, ◌*◌, ◌^◌, ◌<◌, ◌≤◌, List, [], ◌∷◌, get_or, refl, sym, arith}
use Rattle.std.proofs.Math.Nat.{mul-le-mul_left}
use Rattle.astc_model.specs.Sums.{sum_to}
use Rattle.astc_model.specs.Errors.{squared_difference}
use Rattle.astc_model.proofs.SumLaws.{sum_to-same, sum_to-more}
use Rattle.moments.specs.Floors.{shown, factor_of, blend, target, apart, channel_error, IsMoments, more_of, less_of, IsFloored, IsMost, AreWeights, no_moments, with_texel}
use Rattle.moments.proofs.KeptLaws.{none, one_more}
use Rattle.moments.specs.declared.Widening.{Widening}
use Rattle.moments.specs.declared.Moments.{Moments}
use Rattle.moments.proofs.RoundingLaws.{near, near_square, squared_difference-apart}
use Rattle.moments.proofs.MeanSquareLaws.{sums_law, floor_law}
use Rattle.moments.proofs.MomentLaws.{form_law}

pub floored_none : IsFloored 0 0 0 0
floored_none = record {
  form = 0;
  distance = 0;
  form_is = refl;
  moved = omega arith;
  spread = λ p t.
      omega arith;
}

pub floored_times : (g : ℕ) {more less e w : ℕ} → IsFloored more less e w
    → IsFloored (g * more) (g * less) (g * e) (g * w)
floored_times g {more} {less} {e} {w} h = record {
  form = g * h.form;
  distance = g * h.distance;
  form_is = scaled_form h.form less more h.form_is;
  moved = let scaled : g * h.form ≤ g * (2 ^ 26 * (4 * e + 4 * h.distance + w)) =
      mul-le-mul_left g h.moved in scaled_moved h.form e h.distance w scaled;
  spread = λ p t. scaled_spread p t h.distance e w (mul-le-mul_left g (h.spread p t));
}
  where
    scaled_form : (q l m : ℕ) → q + l ≡ m → g * q + g * l ≡ g * m
    scaled_form q l m same = rw (sym same) (omega arith)

    scaled_moved : (q e s w : ℕ) → g * q ≤ g * (2 ^ 26 * (4 * e + 4 * s + w))
        → g * q ≤ 2 ^ 26 * (4 * (g * e) + 4 * (g * s) + g * w)
    scaled_moved q e s w before = omega arith

    scaled_spread : (p t s e w : ℕ) → g * (2 * (p * (t * s))) ≤ g * (t * t * e + p * p * w)
        → 2 * (p * (t * (g * s))) ≤ t * t * (g * e) + p * p * (g * w)
    scaled_spread p t s e w before = omega arith

pub floored_plus : {more less e w more_too less_too e_too w_too : ℕ} → IsFloored more less e w
    → IsFloored more_too less_too e_too w_too
    → IsFloored (more + more_too) (less + less_too) (e + e_too) (w + w_too)
floored_plus {more} {less} {e} {w} {more_too} {less_too} {e_too} {w_too} h k = record {
  form = h.form + k.form;
  distance = h.distance + k.distance;
  form_is = omega arith;
  moved = omega arith;
  spread = λ p t. both p t h.distance k.distance e e_too w w_too (h.spread p t) (k.spread p t);
}
  where
    both : (p t s s_too e e_too w w_too : ℕ) → 2 * (p * (t * s)) ≤ t * t * e + p * p * w
        → 2 * (p * (t * s_too)) ≤ t * t * e_too + p * p * w_too
        → 2 * (p * (t * (s + s_too))) ≤ t * t * (e + e_too) + p * p * (w + w_too)
    both p t s s_too e e_too w w_too one two = omega arith

-- if the form is at least `most` for a limit, the error is at least the limit
pub floored_law : (more less e w most limit : ℕ) → IsFloored more less e w → IsMost most limit w
    → most + less ≤ more → limit ≤ e
floored_law more less e w most limit h far reached =
    floor_law h.form e h.distance w limit far.root h.moved h.spread far.covered (omega arith)

-- an inequality between three quantities of each texel holds for their sums
sum_moved : (q e s : ℕ → ℕ) (n : ℕ) → ((i : ℕ) → i < n → q i ≤ 2 ^ 26 * (4 * e i + 4 * s i + 1))
    → sum_to q n ≤ 2 ^ 26 * (4 * sum_to e n + 4 * sum_to s n + n)
unfolding sum_to
sum_moved q e s zero each = omega arith
sum_moved q e s (suc n) each =
    let before : sum_to q n ≤ 2 ^ 26 * (4 * sum_to e n + 4 * sum_to s n + n) =
    sum_moved q e s n (λ i lt. each i (omega arith)) in
    let last : q n ≤ 2 ^ 26 * (4 * e n + 4 * s n + 1) = each n (omega arith) in
    omega (arith, before, last)

-- the form that is computed from the moments is a lower bound on the error of one channel
pub floored_channel : (widening : Widening) (first second : ℕ) (weights wanted : List ℕ) (n : ℕ)
    (m : Moments)
    → IsMoments widening weights wanted n m → AreWeights weights n
    → IsFloored (more_of m (factor_of widening * first) (factor_of widening * second))
    (less_of m (factor_of widening * first) (factor_of widening * second))
    (channel_error widening first second weights wanted n) n
unfolding channel_error
floored_channel widening first second weights wanted n m kept fit =
    let f : ℕ = factor_of widening * first in
    let g : ℕ = factor_of widening * second in
    let u : ℕ → ℕ = λ i. 64 - get_or weights i 0 in
    let w : ℕ → ℕ = λ i. get_or weights i 0 in
    let z : ℕ → ℕ = λ i. target widening (get_or wanted i 0) in
    let d : ℕ → ℕ = λ i. apart (shown widening first second (get_or weights i 0))
    (get_or wanted i 0) in
    let e : ℕ → ℕ = λ i. squared_difference (shown widening first second (get_or weights i 0))
    (get_or wanted i 0) in
    let q : ℕ → ℕ = λ i. squared_difference (blend f g (w i)) (z i) in
    let squares : sum_to e n ≡ sum_to (λ i. d i * d i) n =
    sum_to-same e (λ i. d i * d i) n
    (λ i lt. squared_difference-apart (shown widening first second (get_or weights i 0))
    (get_or wanted i 0))
    in
    record {
      form = sum_to q n;
      distance = sum_to d n;
      form_is = rw (
        kept.first_squares,
        kept.products,
        kept.second_squares,
        kept.first_targets,
        kept.second_targets,
        kept.target_squares,
      ) (form_law f g u w z n);
      moved = sum_moved q e d n
          (λ i lt. near_square (blend f g (w i)) (z i) (shown widening first second (w i))
          (get_or wanted i 0)
          (near widening first second (w i) (get_or wanted i 0) (fit i lt)));
      spread = λ p t. rw squares (sums_law d p t n);
    }

-- the error of a channel over no texel, and over one more texel
pub error_none : (widening : Widening) (first second : ℕ) (weights wanted : List ℕ)
    → channel_error widening first second weights wanted 0 ≡ 0
unfolding channel_error sum_to
error_none widening first second weights wanted = refl

pub error_more : (widening : Widening) (first second : ℕ) (weights wanted : List ℕ) (n : ℕ)
    → channel_error widening first second weights wanted (n + 1)
    ≡ channel_error widening first second weights wanted n + squared_difference
    (shown widening first second (get_or weights n 0)) (get_or wanted n 0)
unfolding channel_error
error_more widening first second weights wanted n =
    sum_to-more (λ i. squared_difference (shown widening first second (get_or weights i 0))
    (get_or wanted i 0)) n

-- the sum of squares itself is a lower bound on the error of one channel
pub exact_channel : (widening : Widening) (first second : ℕ) (weights wanted : List ℕ) (n : ℕ)
    → AreWeights weights n
    → IsFloored (sum_to (λ i.
    squared_difference (blend (factor_of widening * first) (factor_of widening * second)
    (get_or weights i 0)) (target widening (get_or wanted i 0))) n) 0
    (channel_error widening first second weights wanted n) n
unfolding channel_error
exact_channel widening first second weights wanted n fit =
    let f : ℕ = factor_of widening * first in
    let g : ℕ = factor_of widening * second in
    let w : ℕ → ℕ = λ i. get_or weights i 0 in
    let d : ℕ → ℕ = λ i. apart (shown widening first second (w i)) (get_or wanted i 0) in
    let e : ℕ → ℕ = λ i. squared_difference (shown widening first second (w i))
    (get_or wanted i 0) in
    let q : ℕ → ℕ = λ i. squared_difference (blend f g (w i))
    (target widening (get_or wanted i 0)) in
    let squares : sum_to e n ≡ sum_to (λ i. d i * d i) n =
    sum_to-same e (λ i. d i * d i) n
    (λ i lt. squared_difference-apart (shown widening first second (w i)) (get_or wanted i 0))
    in
    record {
      form = sum_to q n;
      distance = sum_to d n;
      form_is = omega arith;
      moved = sum_moved q e d n
          (λ i lt. near_square (blend f g (w i)) (target widening (get_or wanted i 0))
          (shown widening first second (w i)) (get_or wanted i 0)
          (near widening first second (w i) (get_or wanted i 0) (fit i lt)));
      spread = λ p t. rw squares (sums_law d p t n);
    }

-- ---- the moments after one more texel

more_grown : (m : Moments) (u w z f g : ℕ) → more_of (with_texel m u w z) f g
    ≡ more_of m f g + more_of (with_texel no_moments u w z) f g
more_grown m u w z f g = omega arith

less_grown : (m : Moments) (u w z f g : ℕ) → less_of (with_texel m u w z) f g
    ≡ less_of m f g + less_of (with_texel no_moments u w z) f g
less_grown m u w z f g = omega arith

one_texel : (widening : Widening) (first second weight wanted : ℕ) → weight ≤ 64
    → IsFloored (more_of (with_texel no_moments (64 - weight) weight (target widening wanted))
    (factor_of widening * first) (factor_of widening * second))
    (less_of (with_texel no_moments (64 - weight) weight (target widening wanted))
    (factor_of widening * first) (factor_of widening * second))
    (squared_difference (shown widening first second weight) wanted) 1
unfolding channel_error sum_to
one_texel widening first second weight wanted fits =
    let weights : List ℕ = weight ∷ [] in
    let wanteds : List ℕ = wanted ∷ [] in
    let single : IsMoments widening weights wanteds 1
    (with_texel no_moments (64 - weight) weight (target widening wanted)) =
    one_more widening weights wanteds 0 no_moments weight (target widening wanted)
    (none widening weights wanteds) refl refl
    in
    let is = floored_channel widening first second weights wanteds 1
    (with_texel no_moments (64 - weight) weight (target widening wanted)) single (each fits) in
    record {
      form = is.form;
      distance = is.distance;
      form_is = is.form_is;
      moved = omega (arith, is.moved);
      spread = λ p t. omega (arith, is.spread p t);
    }
  where
    each : weight ≤ 64 → AreWeights (weight ∷ []) 1
    each fits zero below = fits
    each fits (suc i) below = absurd (omega arith)

pub floored_texel : (widening : Widening) (m : Moments) (first second weight wanted e n : ℕ)
    → weight ≤ 64
    → IsFloored (more_of m (factor_of widening * first) (factor_of widening * second))
    (less_of m (factor_of widening * first) (factor_of widening * second)) e n
    → IsFloored (more_of (with_texel m (64 - weight) weight (target widening wanted))
    (factor_of widening * first) (factor_of widening * second))
    (less_of (with_texel m (64 - weight) weight (target widening wanted))
    (factor_of widening * first) (factor_of widening * second))
    (e + squared_difference (shown widening first second weight) wanted) (n + 1)
floored_texel widening m first second weight wanted e n fits before =
    rw (
      more_grown m (64 - weight) weight (target widening wanted) (factor_of widening * first)
          (factor_of widening * second),
      less_grown m (64 - weight) weight (target widening wanted) (factor_of widening * first)
          (factor_of widening * second),
    )
    (floored_plus before (one_texel widening first second weight wanted fits))

pub floored_nothing : (f g : ℕ) → IsFloored (more_of no_moments f g) (less_of no_moments f g) 0 0
floored_nothing f g = record {
  form = 0;
  distance = 0;
  form_is = omega arith;
  moved = omega arith;
  spread = λ p t. omega arith;
}
