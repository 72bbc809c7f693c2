-- The origins of the weights of four neighbouring texels: the places whose targets determine them.
use Rattle.std.specs.Prelude.{◌≡◌, ◌⊎◌, ℕ, ◌+◌, ◌*◌, ◌<◌, ◌≤◌, if◌then◌else◌, IsTrue, List, length, slice_index}
use Rattle.texel_lanes.specs.Lanes.{AreInOne, pairs_of, place_in}
use Rattle.texel_error.specs.declared.groups.GroupOrigins.{GroupOrigins}

-- the place of lane k; lanes 4 t to 4 t + 3 belong to texel t
abbrev pub place_of_lane : GroupOrigins → ℕ → ℕ
place_of_lane own k = if own.near then place_in own.starts.0 own.starts.1 (slice_index own.first k)
    (slice_index own.second k) else slice_index own.first k

-- the places on which the weight of texel t depends, with their factors in sixteenths
abbrev pub group_pairs : GroupOrigins → ℕ → List (ℕ × ℕ)
group_pairs own t = pairs_of (place_of_lane own) own.factors t

-- the factors of four texels, four for each, have a sum of at most 16 for each texel
pub record AreFactors (factors : List ℕ) : Type 0 where
  pub all : length factors ≡ 16
  pub small : (k : ℕ) → k < 16 → slice_index factors k ≤ 16
  pub total : (t : ℕ) → t < 4 → slice_index factors (4 * t) + slice_index factors (4 * t + 1)
      + slice_index factors (4 * t + 2) + slice_index factors (4 * t + 3) ≤ 16

-- the places are given as offsets in two runs of sixteen
pub record AreNear (own : GroupOrigins) : Type 0 where
  pub first : own.starts.0 ≤ 144
  pub second : own.starts.1 ≤ 144
  pub one : AreInOne own.first own.second

-- all places on which the weights of the group depend are below n
pub record IsOriginGroup (n : ℕ) (own : GroupOrigins) : Type 0 where
  pub all_first : length own.first ≡ 16
  pub all_second : length own.second ≡ 16
  pub factors : AreFactors own.factors
  pub near : IsTrue own.near → AreNear own
  pub within : (k : ℕ) → k < 16 → place_of_lane own k < n

-- lane k has an offset in exactly one run, the place is below n, and it is the given place if its
-- factor is over 0
pub record IsLaneKept (n : ℕ) (own : GroupOrigins) (places : List ℕ) (k : ℕ) : Type 0 where
  pub one : (slice_index own.first k < 16) × (128 ≤ slice_index own.second k)
      ⊎ (128 ≤ slice_index own.first k) × (slice_index own.second k < 16)
  pub within : place_in own.starts.0 own.starts.1 (slice_index own.first k)
      (slice_index own.second k) < n
  pub same : 0 < slice_index own.factors k → place_in own.starts.0 own.starts.1
      (slice_index own.first k) (slice_index own.second k) ≡ slice_index places k
