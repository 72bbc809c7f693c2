-- Floors: lower bounds on the error of a set of texels with any given endpoints, computed from sums
-- over the texels (moments) only.
use Rattle.std.specs.Prelude.{◌≡◌, ℕ, ◌+◌, ◌-◌, ◌*◌, ◌/◌, ◌^◌, ◌<◌, ◌≤◌, List, slice_index}
use Rattle.astc_model.specs.Sums.{sum_to}
use Rattle.astc_model.specs.Errors.{squared_difference}
use Rattle.astc_model.specs.CodedTexels.{mixed}
use Rattle.moments.specs.declared.Widening.{Widening}
use Rattle.moments.specs.declared.Moments.{Moments}
use Rattle.moments.specs.declared.Widening.TheVariants.{Repeated, Centred}

-- an endpoint channel of 8 bits, widened to 16 bits
abbrev pub widened_by : Widening → ℕ → ℕ
widened_by Repeated value = 257 * value
widened_by Centred value = 256 * value + 128

-- the decoded byte of a channel at a texel with this weight
abbrev pub shown : Widening → (first second weight : ℕ) → ℕ
shown widening first second weight = mixed (widened_by widening first)
    (widened_by widening second) weight / 256

-- the factor of an endpoint byte in the widened channel
abbrev pub factor_of : Widening → ℕ
factor_of Repeated = 257
factor_of Centred = 256

-- the interpolation of two channels, multiplied by 64, without rounding
abbrev pub blend : (first second weight : ℕ) → ℕ
blend first second weight = first * (64 - weight) + second * weight

-- the blend from which rounding gives the byte of the source, about the middle of all such blends
abbrev pub target : Widening → ℕ → ℕ
target Repeated wanted = 16384 * wanted + 8160
target Centred wanted = 16384 * wanted

-- the absolute difference of two numbers
abbrev pub apart : ℕ → ℕ → ℕ
apart a b = (a - b) + (b - a)

-- the error of one channel over n texels
unfoldable pub channel_error : Widening → (first second : ℕ) → (weights wanted : List ℕ) → ℕ → ℕ
channel_error widening first second weights wanted n =
    sum_to (λ i. squared_difference (shown widening first second (slice_index weights i))
    (slice_index wanted i)) n

-- the moments of n texels in one channel: the sums of the squares and products of the weights w, of
-- 64 - w, and of the targets
pub record IsMoments (widening : Widening) (weights wanted : List ℕ) (n : ℕ)
    (moments : Moments) : Type 0 where
  pub first_squares : moments.first_squares
      ≡ sum_to (λ i. (64 - slice_index weights i) * (64 - slice_index weights i)) n
  pub products : moments.products
      ≡ sum_to (λ i. (64 - slice_index weights i) * slice_index weights i) n
  pub second_squares : moments.second_squares
      ≡ sum_to (λ i. slice_index weights i * slice_index weights i) n
  pub first_targets : moments.first_targets
      ≡ sum_to (λ i. (64 - slice_index weights i) * target widening (slice_index wanted i)) n
  pub second_targets : moments.second_targets
      ≡ sum_to (λ i. slice_index weights i * target widening (slice_index wanted i)) n
  pub target_squares : moments.target_squares
      ≡ sum_to (λ i. target widening (slice_index wanted i) * target widening
      (slice_index wanted i)) n

-- the moments are within the ranges of those of 144 texels
pub record AreSmall (moments : Moments) : Type 0 where
  pub first_squares_fit : moments.first_squares < 2 ^ 20
  pub products_fit : moments.products < 2 ^ 20
  pub second_squares_fit : moments.second_squares < 2 ^ 20
  pub first_targets_fit : moments.first_targets < 2 ^ 36
  pub second_targets_fit : moments.second_targets < 2 ^ 36
  pub target_squares_fit : moments.target_squares < 2 ^ 52

-- the moments are within the ranges of those of n texels
pub record IsWithin (n : ℕ) (moments : Moments) : Type 0 where
  pub first_squares_within : moments.first_squares ≤ 4096 * n
  pub products_within : moments.products ≤ 4096 * n
  pub second_squares_within : moments.second_squares ≤ 4096 * n
  pub first_targets_within : moments.first_targets ≤ 267909120 * n
  pub second_targets_within : moments.second_targets ≤ 267909120 * n
  pub target_squares_within : moments.target_squares ≤ 17523265766400 * n

-- the form at two endpoints, in the units of `factor_of`, is `more_of` minus `less_of`
abbrev pub more_of : Moments → (first second : ℕ) → ℕ
more_of moments first second =
    first * first * moments.first_squares + 2 * (first * second * moments.products) + second
    * second * moments.second_squares + moments.target_squares

abbrev pub less_of : Moments → (first second : ℕ) → ℕ
less_of moments first second = 2 * (first * moments.first_targets + second * moments.second_targets)

-- the form, more - less, is a lower bound on the error e, except for rounding; w is the sum of the
-- channel weights over all texels
pub record IsFloored (more less e w : ℕ) : Type 0 where
  pub form : ℕ
  pub distance : ℕ
  pub form_is : form + less ≡ more
  pub moved : form ≤ 2 ^ 26 * (4 * e + 4 * distance + w)
  pub spread : (p t : ℕ) → 2 * (p * (t * distance)) ≤ t * t * e + p * p * w

-- a form of at least `most` implies that the error is at least the limit
pub record IsMost (most limit w : ℕ) : Type 0 where
  pub root : ℕ
  pub covered : w * limit ≤ root * root
  pub enough : 2 ^ 26 * (4 * limit + 4 * root + w) ≤ most

-- the first n weights are at most 64
abbrev pub AreWeights : List ℕ → ℕ → Type 0
AreWeights weights n = (i : ℕ) → i < n → slice_index weights i ≤ 64

-- the moments of an empty set of texels
abbrev pub no_moments : Moments
no_moments = record {
  first_squares = 0;
  products = 0;
  second_squares = 0;
  first_targets = 0;
  second_targets = 0;
  target_squares = 0;
}

-- the moments after a texel is added: `second` is its weight, `first` is 64 minus this, `aim` is
-- its target
abbrev pub with_texel : Moments → (first second aim : ℕ) → Moments
with_texel m first second aim = record {
  first_squares = m.first_squares + first * first;
  products = m.products + first * second;
  second_squares = m.second_squares + second * second;
  first_targets = m.first_targets + first * aim;
  second_targets = m.second_targets + second * aim;
  target_squares = m.target_squares + aim * aim;
}
