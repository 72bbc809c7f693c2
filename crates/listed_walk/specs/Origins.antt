-- The origins of the weights of texels in a grid.
use Rattle.std.specs.Prelude.{◌≡◌, ℕ, ◌+◌, ◌*◌, ◌/◌, ◌%◌, ◌<◌, ◌≤◌, IsTrue, List, [], ◌∷◌, Option, None, Some, length, map, slice_index, slice_index_or, sum_by}
use Rattle.std.specs.List.{All}
use Rattle.astc_model.specs.Infill.{factors}
use Rattle.texel_lanes.specs.Lanes.{pairs_of}
use Rattle.texel_error.specs.Drawing.{no_origins}
use Rattle.texel_error.specs.Groups.{AreFactors, group_pairs, place_of_lane}
use Rattle.texel_error.specs.Numerators.{share_sum}
use Rattle.texel_error.specs.declared.groups.GroupOrigins.{GroupOrigins}

-- the place of a point, with its factor; a point without a place adds nothing
abbrev pub placed : Option ℕ → ℕ → ℕ × ℕ
placed None factor = (0, 0)
placed (Some place) factor = (place, factor)

-- the same of a point of a grid, given by its number and its factor
abbrev pub origin : List (Option ℕ) → ℕ × ℕ → ℕ × ℕ
origin grid point = placed (slice_index_or grid point.0 None) point.1

-- a weight is made of the values of these, some of n places, by their factors
pub record AreOrigins (n : ℕ) (origins : List (ℕ × ℕ)) : Type 0 where
  pub within : All (λ origin. origin.0 < n) origins
  pub small : All (λ origin. origin.1 ≤ 16) origins
  pub total : sum_by (λ origin. origin.1) origins ≤ 16

-- the places of the points around place p in a grid of n by m points, whose places these are, with
-- their factors
abbrev pub origins_in : (w h n m : ℕ) → List (Option ℕ) → ℕ → List (ℕ × ℕ)
origins_in w h n m grid p = map (origin grid) (factors w h n m (p % w) (p / w))

-- these places and factors are those of place p, if it is in the block
pub record ArePlaceOrigins (w h n m : ℕ) (grid : List (Option ℕ)) (p : ℕ)
    (places factors : List ℕ) : Type 0 where
  pub within : (c : ℕ) → c < 4 → slice_index places c < w * h
  pub small : (c : ℕ) → c < 4 → slice_index factors c ≤ 16
  pub total : slice_index factors 0 + slice_index factors 1 + slice_index factors 2
      + slice_index factors 3 ≤ 16
  pub pairs : p < w * h → (slice_index places 0, slice_index factors 0)
      ∷ (slice_index places 1, slice_index factors 1)
      ∷ (slice_index places 2, slice_index factors 2)
      ∷ (slice_index places 3, slice_index factors 3) ∷ [] ≡ origins_in w h n m grid p

-- the same of lanes 4 * t to 4 * t + 3 of a group
pub record AreLaneOrigins (w h n m : ℕ) (grid : List (Option ℕ)) (p : ℕ)
    (places factors : List ℕ) (t : ℕ) : Type 0 where
  pub within : (c : ℕ) → c < 4 → slice_index places (4 * t + c) < w * h
  pub small : (c : ℕ) → c < 4 → slice_index factors (4 * t + c) ≤ 16
  pub total : slice_index factors (4 * t) + slice_index factors (4 * t + 1)
      + slice_index factors (4 * t + 2) + slice_index factors (4 * t + 3) ≤ 16
  pub pairs : p < w * h → pairs_of (slice_index places) factors t ≡ origins_in w h n m grid p

-- the places of a group are in two runs of sixteen: as in AreNear of texel_error, but without a
-- choice, so that a ghost field may have it
pub record AreNearRuns (own : GroupOrigins) : Type 0 where
  pub first : own.starts.0 ≤ 144
  pub second : own.starts.1 ≤ 144
  pub below : (k : ℕ) → k < 16 → slice_index own.first k < 16 → 128 ≤ slice_index own.second k
  pub above : (k : ℕ) → k < 16 → 16 ≤ slice_index own.first k
      → (128 ≤ slice_index own.first k) × (slice_index own.second k < 16)

-- the weights of a group are made of n places: as in IsOriginGroup of texel_error
pub record HasPlaces (n : ℕ) (own : GroupOrigins) : Type 0 where
  pub all_first : length own.first ≡ 16
  pub all_second : length own.second ≡ 16
  pub factors : AreFactors own.factors
  pub near : IsTrue own.near → AreNearRuns own
  pub within : (k : ℕ) → k < 16 → place_of_lane own k < n

-- a group has the places of the points around its texels
pub record AreGroupOrigins (w h n m : ℕ) (grid : List (Option ℕ)) (g : ℕ)
    (own : GroupOrigins) : Type 0 where
  pub group : HasPlaces (w * h) own
  pub shares : (t : ℕ) → t < 4 → 4 * g + t < w * h → (values : List ℕ)
      → share_sum values (group_pairs own t)
      ≡ share_sum values (origins_in w h n m grid (4 * g + t))

-- so have the first `count` groups
pub record AreOriginsTo (w h n m : ℕ) (grid : List (Option ℕ)) (count : ℕ)
    (groups : List GroupOrigins) : Type 0 where
  pub all : length groups ≡ 36
  pub each : (g : ℕ) → g < count
      → AreGroupOrigins w h n m grid g (slice_index_or groups g no_origins)
