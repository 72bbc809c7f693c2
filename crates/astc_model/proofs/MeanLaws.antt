-- The rounded mean has the least sum of squared differences from a list of numbers.
use Rattle.std.proofs.Common.{◌≡◌, ℕ, zero, suc, ◌+◌, ◌-◌, ◌*◌, ◌/◌, ◌%◌, ◌<◌, ◌≤◌, List, [], ◌∷◌, cond, refl, arith, inl, inr}
use Rattle.std.specs.Prelude.{Option, None, Some, sum_by, is_some}
use Rattle.std.proofs.lemmas.Bool.{cases_lt}
use Rattle.std.proofs.lemmas.Nat.{mod_below}
use Rattle.std.proofs.lemmas.List.Sums.{sum_by-cons}
use Rattle.std.proofs.Math.Nat.{mul-le-mul_left, div-add-mod}
use Rattle.astc_model.specs.Places.{Texel, channel, channel_at, channel_sum, inside_count, mean_of}
use Rattle.astc_model.specs.Errors.{squared_difference}

square_up : (a d : ℕ) → squared_difference a (a + d) + 2 * (a * (a + d)) ≡ a * a + (a + d) * (a + d)
square_up a d =
    let none : a - (a + d) ≡ 0 = omega arith in
    let all : a + d - a ≡ d = omega arith in
    rw (none, all) (omega arith)

square_down : (b d : ℕ) → squared_difference (b + d) b + 2 * ((b + d) * b)
    ≡ (b + d) * (b + d) + b * b
square_down b d =
    let none : b - (b + d) ≡ 0 = omega arith in
    let all : b + d - b ≡ d = omega arith in
    rw (none, all) (omega arith)

-- (a - b)^2 + 2ab = a^2 + b^2
square_law : (a b : ℕ) → squared_difference a b + 2 * (a * b) ≡ a * a + b * b
square_law a b =
    elim (cases_lt a b) [
      | inl less ↦ let whole : b ≡ a + (b - a) = omega arith in rw whole (square_up a (b - a))
      | inr more ↦ let whole : a ≡ b + (a - b) = omega arith in rw whole (square_down b (a - b))
    ]

-- the squared difference of k and a channel of a place's texel; 0 outside the image
unfoldable pub square_at : ℕ → ℕ → Option Texel → ℕ
square_at k c None = 0
square_at k c (Some texel) = squared_difference k (channel c texel)

-- the sum of the squared differences of k and a channel of the inside texels
unfoldable pub squares : ℕ → ℕ → List (Option Texel) → ℕ
squares k c places = sum_by (square_at k c) places

-- the square of a channel of a place's texel; 0 outside the image
own_square : ℕ → Option Texel → ℕ
own_square c None = 0
own_square c (Some texel) = channel c texel * channel c texel

abbrev one_at : Option Texel → ℕ
one_at place = cond (is_some place) 1 0

place_law : (k c : ℕ) (place : Option Texel) → square_at k c place + 2 * (k * channel_at c place)
    ≡ own_square c place + one_at place * (k * k)
unfolding square_at own_square
place_law k c None = omega arith
place_law k c (Some texel) = omega (arith, square_law k (channel c texel))

-- the equation of the sums holds after one more place
more : (k q s o n q_rest s_rest o_rest n_rest q_all s_all o_all n_all : ℕ)
    → q_all ≡ q + q_rest → s_all ≡ s + s_rest → o_all ≡ o + o_rest → n_all ≡ n + n_rest
    → q + 2 * (k * s) ≡ o + n * (k * k) → q_rest + 2 * (k * s_rest) ≡ o_rest + n_rest * (k * k)
    → q_all + 2 * (k * s_all) ≡ o_all + n_all * (k * k)
more k q s o n q_rest s_rest o_rest n_rest q_all s_all o_all n_all q_is s_is o_is n_is first rest =
    rw (q_is, s_is, o_is, n_is) (omega (arith, first, rest))

squares_law : (k c : ℕ) (places : List (Option Texel))
    → sum_by (square_at k c) places + 2 * (k * channel_sum c places)
    ≡ sum_by (own_square c) places + inside_count places * (k * k)
squares_law k c [] = omega arith
squares_law k c (place ∷ places) =
    more k (square_at k c place) (channel_at c place) (own_square c place) (one_at place)
    (sum_by (square_at k c) places) (channel_sum c places) (sum_by (own_square c) places)
    (inside_count places)
    _ _ _ _
    (sum_by-cons (square_at k c) place places) (sum_by-cons (channel_at c) place places)
    (sum_by-cons (own_square c) place places) (sum_by-cons one_at place places)
    (place_law k c place) (squares_law k c places)

-- if no place is inside, the sum of squares is 0
none_inside : (k c : ℕ) (places : List (Option Texel)) → inside_count places ≡ 0
    → squares k c places ≡ 0
unfolding squares square_at
none_inside k c [] none = refl
none_inside k c (None ∷ places) none =
    let fewer : inside_count places ≡ 0 =
    omega (arith, none, sum_by-cons {X = Option Texel} one_at None places) in
    let rest : sum_by (square_at k c) places ≡ 0 = none_inside k c places fewer in
    omega (arith, sum_by-cons (square_at k c) None places, rest)
none_inside k c (Some texel ∷ places) none =
    absurd (omega (arith, none, sum_by-cons {X = Option Texel} one_at (Some texel) places))

-- the bounds of the rounded mean m = (2s + n) / 2n
between : (s n : ℕ) → 0 < n → (2 * s ≤ 2 * (n * mean_of s n) + n)
    × (2 * (n * mean_of s n) ≤ 2 * s + n)
between s zero some = absurd (omega arith)
between s (suc n) some =
    let whole : 2 * suc n * ((2 * s + suc n) / (2 * suc n)) + (2 * s + suc n) % (2 * suc n)
    ≡ 2 * s + suc n = div-add-mod (2 * s + suc n) (2 * suc n) in
    let rest : (2 * s + suc n) % (2 * suc n) < 2 * suc n = mod_below (2 * s + suc n) (2 * suc n)
    (omega arith) in
    (omega (arith, whole, rest), omega (arith, whole, rest))

own_le_square : (d : ℕ) → d ≤ d * d
own_le_square zero = omega arith
own_le_square (suc d) = omega arith

-- m is closer to s / n than a greater number k = m + d, and than a smaller one
least_above : (n s o m d qm qk : ℕ) → 2 * s ≤ 2 * (n * m) + n
    → qm + 2 * (m * s) ≡ o + n * (m * m) → qk + 2 * ((m + d) * s) ≡ o + n * ((m + d) * (m + d))
    → qm ≤ qk
least_above n s o m d qm qk above m_law k_law =
    let widened : d * (2 * s) ≤ d * (2 * (n * m) + n) = mul-le-mul_left d above in
    let squared : n * d ≤ n * (d * d) = mul-le-mul_left n (own_le_square d) in
    omega (arith, widened, squared, m_law, k_law)

least_below : (n s o k d qm qk : ℕ) → 2 * (n * (k + d)) ≤ 2 * s + n
    → qm + 2 * ((k + d) * s) ≡ o + n * ((k + d) * (k + d)) → qk + 2 * (k * s) ≡ o + n * (k * k)
    → qm ≤ qk
least_below n s o k d qm qk below m_law k_law =
    let widened : d * (2 * (n * (k + d))) ≤ d * (2 * s + n) = mul-le-mul_left d below in
    let squared : n * d ≤ n * (d * d) = mul-le-mul_left n (own_le_square d) in
    omega (arith, widened, squared, m_law, k_law)

least : (n s o m k qm qk : ℕ) → 2 * s ≤ 2 * (n * m) + n → 2 * (n * m) ≤ 2 * s + n
    → qm + 2 * (m * s) ≡ o + n * (m * m) → qk + 2 * (k * s) ≡ o + n * (k * k) → qm ≤ qk
least n s o m k qm qk above below m_law k_law =
    elim (cases_lt m k) [
      | inl less ↦ let whole : k ≡ m + (k - m) = omega arith in
          least_above n s o m (k - m) qm qk above m_law (rw whole at k_law)
      | inr more ↦ let whole : m ≡ k + (m - k) = omega arith in least_below n s o k (m - k) qm qk
          (rw whole at below) (rw whole at m_law) k_law
    ]

-- no number has a smaller sum of squared differences from a channel than its mean
pub mean_is_least : (c k : ℕ) (places : List (Option Texel))
    → squares (mean_of (channel_sum c places) (inside_count places)) c places ≤ squares k c places
unfolding squares
mean_is_least c k places =
    elim (cases_lt 0 (inside_count places)) [
      | inl some ↦
          let near : _ = between (channel_sum c places) (inside_count places) some in
          least (inside_count places) (channel_sum c places) (sum_by (own_square c) places)
          (mean_of (channel_sum c places) (inside_count places)) k _ _ near.0 near.1
          (squares_law (mean_of (channel_sum c places) (inside_count places)) c places)
          (squares_law k c places)
      | inr none ↦ omega (
        arith,
        none_inside (mean_of (channel_sum c places) (inside_count places))
            c places (omega arith),
      )
    ]
