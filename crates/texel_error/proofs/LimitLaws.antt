-- Sums of errors that are computed only up to a limit.
use Rattle.std.proofs.Common.{◌≡◌, ℕ, zero, suc, ◌+◌, ◌*◌, ◌<◌, ◌≤◌, nat_lt, ◌&&◌, Bool, true, false, cond, List, get_or, refl, ap, add-one, arith, inl, inr, Option, None, Some}
use Rattle.std.proofs.lemmas.Bool.{cases_lt, lt-ltb, le-ltb}
use Rattle.astc_model.specs.Sums.{sum_to}
use Rattle.astc_model.specs.Places.{Texel}
use Rattle.astc_model.proofs.SumLaws.{sum_to-same}
use Rattle.astc_model.specs.Weights.{Weighting}
use Rattle.astc_model.specs.Errors.{place_error, error}
use Rattle.astc_model.specs.declared.flavour.Flavour.{Flavour}
use Rattle.astc_model.specs.declared.block.Block.{Block}
use Rattle.texel_error.specs.Counting.{is_inside}
use Rattle.texel_error.specs.Limited.{count_under, under, steps_under}
use Rattle.texel_error.specs.Decoding.{error_of_place, Shows}
use Rattle.texel_error.specs.declared.decoded.Decoded.{Decoded}

-- a sum over more places is at least as large
pub sum_to-further : (f : ℕ → ℕ) (p n : ℕ) → p ≤ n → sum_to f p ≤ sum_to f n
unfolding sum_to
sum_to-further f p zero within = let none : p ≡ 0 = omega arith in rw none (omega arith)
sum_to-further f p (suc n) within =
    elim (cases_lt n p) [
      | inl last ↦ let same : p ≡ suc n = omega arith in rw same (omega arith)
      | inr before ↦ omega (arith, sum_to-further f p n before)
    ]

pub count_under-further : (f : ℕ → ℕ) (places : List (Option Texel)) (limit p n : ℕ) → p ≤ n
    → count_under f places limit p ≤ count_under f places limit n
unfolding count_under
count_under-further f places limit p n within =
    sum_to-further (λ k. cond (is_inside places k && nat_lt (sum_to f k) limit) 1 0) p n within

-- one more place is counted if it is inside and the sum before it is under the limit
pub count_under-more : (f : ℕ → ℕ) (places : List (Option Texel)) (limit p : ℕ) → sum_to f p < limit
    → count_under f places limit (p + 1) ≡ count_under f places limit p + cond
    (is_inside places p) 1 0
unfolding count_under sum_to
count_under-more f places limit p below =
    let test : nat_lt (sum_to f p) limit ≡ true = lt-ltb (sum_to f p) limit below in
    rw (add-one p, test) (last (is_inside places p) _)
  where
    last : (b : Bool) (s : ℕ) → s + cond (b && true) 1 0 ≡ s + cond b 1 0
    last true s = refl
    last false s = refl

pub under-none : (limit n : ℕ) → limit ≤ n → None ≡ under limit n
under-none limit n most = rw (le-ltb n limit most) refl

pub under-some : (limit n sum : ℕ) → n ≡ sum → n < limit → Some n ≡ under limit sum
under-some limit n sum is below = let less : nat_lt sum limit ≡ true =
    lt-ltb sum limit (omega (arith, is, below)) in rw (is, less) refl

-- with equal errors the number of steps is equal
pub count_under-same : (f g : ℕ → ℕ) (places : List (Option Texel)) (limit n : ℕ)
    → ((p : ℕ) → p < n → f p ≡ g p) → count_under f places limit n ≡ count_under g places limit n
unfolding count_under
count_under-same f g places limit n same =
    sum_to-same _ (λ k. cond (is_inside places k && nat_lt (sum_to g k) limit) 1 0) n
    (λ k below. rw (sum_to-same f g k (λ p lt. same p (omega arith))) refl)

-- ---- the error of a prepared block

module _ (w h : ℕ) (flavour : Flavour) (weights : Weighting) (block : Block) (decoded : Decoded)
    (source : List (Option Texel)) where
  pub error-is : (counts : List ℕ) (places : List (Option Texel)) (n : ℕ)
      → Shows w h flavour block decoded → counts ≡ weights → places ≡ source → n ≡ w * h
      → sum_to (error_of_place decoded counts places) n ≡ error w h flavour weights block source
  unfolding error
  error-is counts places n shows counts_are places_are all =
      rw (counts_are, places_are, all)
      (sum_to-same (error_of_place decoded weights source) _ (w * h)
      (λ p below. ap (λ shown. place_error weights shown (get_or source p None))
      (shows.at p below)))

  pub steps-are : (counts : List ℕ) (places : List (Option Texel)) (n limit : ℕ)
      → Shows w h flavour block decoded → counts ≡ weights → places ≡ source → n ≡ w * h
      → count_under (error_of_place decoded counts places) places limit n
      ≡ steps_under w h flavour weights block source limit
  steps-are counts places n limit shows counts_are places_are all =
      rw (counts_are, places_are, all)
      (count_under-same (error_of_place decoded weights source) _ source limit (w * h)
      (λ p below. ap (λ shown. place_error weights shown (get_or source p None))
      (shows.at p below)))
