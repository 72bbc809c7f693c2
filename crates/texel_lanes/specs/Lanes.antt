-- The elements of vectors, called lanes.
use Rattle.std.specs.Prelude.{◌≡◌, ◌⊎◌, ℕ, ◌+◌, ◌*◌, ◌-◌, ◌<◌, ◌≤◌, if◌then◌else◌, nat_le, nat_lt, List, [], ◌∷◌, length, slice_index}

-- the vector v has n lanes, and lane k is f k
pub record HasLanes (n : ℕ) (v : List ℕ) (f : ℕ → ℕ) : Type 0 where
  pub long : length v ≡ n
  pub each : (k : ℕ) → k < n → slice_index v k ≡ f k

-- the index of a target in a table of 64 entries, where 31 and 32 share an entry
abbrev pub place_of_target : ℕ → ℕ
place_of_target target = if nat_le 32 target then target - 1 else target

-- the sum of the products of lanes 4 t to 4 t + 3, which belong to texel t
abbrev pub four_products : List ℕ → List ℕ → ℕ → ℕ
four_products xs ys t = slice_index xs (4 * t) * slice_index ys (4 * t)
    + slice_index xs (4 * t + 1) * slice_index ys (4 * t + 1)
    + (slice_index xs (4 * t + 2) * slice_index ys (4 * t + 2)
    + slice_index xs (4 * t + 3) * slice_index ys (4 * t + 3))

-- the absolute difference of two numbers
abbrev pub far_apart : ℕ → ℕ → ℕ
far_apart a b = (a - b) + (b - a)

-- the term of a channel in the scalar product with a line: the distance of the value from the
-- origin times the line's length in the channel, 4 * quarter + rest
abbrev pub along_channel : (value origin quarter rest : ℕ) → ℕ
along_channel value origin quarter rest = far_apart value origin * (4 * quarter + rest)

-- the scalar product of texel t with a line
abbrev pub along_lane : (texels origins quarters rests : List ℕ) → ℕ → ℕ
along_lane texels origins quarters rests t =
    along_channel (slice_index texels (4 * t)) (slice_index origins (4 * t))
    (slice_index quarters (4 * t)) (slice_index rests (4 * t))
    + along_channel (slice_index texels (4 * t + 1)) (slice_index origins (4 * t + 1))
    (slice_index quarters (4 * t + 1)) (slice_index rests (4 * t + 1))
    + along_channel (slice_index texels (4 * t + 2)) (slice_index origins (4 * t + 2))
    (slice_index quarters (4 * t + 2)) (slice_index rests (4 * t + 2))
    + along_channel (slice_index texels (4 * t + 3)) (slice_index origins (4 * t + 3))
    (slice_index quarters (4 * t + 3)) (slice_index rests (4 * t + 3))

-- sixteen bytes were stored from index `at` on, and all others are unchanged
pub record IsPutAt (old : List ℕ) (at : ℕ) (put new : List ℕ) : Type 0 where
  pub long : length new ≡ length old
  pub own : (k : ℕ) → k < 16 → slice_index new (at + k) ≡ slice_index put k
  pub below : (k : ℕ) → k < at → slice_index new k ≡ slice_index old k
  pub above : (k : ℕ) → at + 16 ≤ k → slice_index new k ≡ slice_index old k

-- each place is an index of a run of sixteen, or at least 128 and gives 0
pub record MayLookUp (places : List ℕ) : Type 0 where
  pub each : (k : ℕ) → k < 16 → 128 ≤ slice_index places k ⊎ slice_index places k < 16

-- the result of lane k of a look-up in the run of sixteen from `start` on
abbrev pub run_lane : List ℕ → ℕ → List ℕ → ℕ → ℕ
run_lane table start places k =
    if nat_le 128 (slice_index places k) then 0 else slice_index table
    (start + slice_index places k)

-- each lane has an offset in exactly one of two runs
pub record AreInOne (first second : List ℕ) : Type 0 where
  pub each : (k : ℕ) → k < 16 → (slice_index first k < 16) × (128 ≤ slice_index second k)
      ⊎ (128 ≤ slice_index first k) × (slice_index second k < 16)

-- the place of a lane from its offsets in two runs, which begin at `start` and `other`
abbrev pub place_in : (start other first second : ℕ) → ℕ
place_in start other first second = if nat_lt first 16 then start + first else other + second

-- the sum over eight lanes
abbrev pub eight_sum : (ℕ → ℕ) → ℕ
eight_sum f = f 0 + f 1 + f 2 + f 3 + f 4 + f 5 + f 6 + f 7

-- the square of the difference of two numbers
abbrev pub squared_apart : ℕ → ℕ → ℕ
squared_apart a b = (a - b) * (a - b) + (b - a) * (b - a)

-- the pairs of place and factor that belong to texel t of four
abbrev pub pairs_of : (ℕ → ℕ) → List ℕ → ℕ → List (ℕ × ℕ)
pairs_of place factors t =
    (place (4 * t), slice_index factors (4 * t))
    ∷ (place (4 * t + 1), slice_index factors (4 * t + 1))
    ∷ (place (4 * t + 2), slice_index factors (4 * t + 2))
    ∷ (place (4 * t + 3), slice_index factors (4 * t + 3)) ∷ []
