-- The pieces that the candidates of several recipes share, and a block from its pieces.
use Rattle.std.specs.Prelude.{◌≡◌, ℕ, ◌<◌, ◌≤◌, ◌*◌, ◌/◌, ◌%◌, ◌==◌, if◌then◌else◌, List, [], map, take, Option, None, Some, slice_index, slice_index_or}
use Rattle.std.specs.List.{All, range_with_len, flat_map}
use Rattle.astc_model.specs.Places.{Texel}
use Rattle.astc_model.specs.declared.bounds.Box8.{Box8}
use Rattle.astc_model.specs.declared.level.Level.{Level}
use Rattle.astc_model.specs.declared.recipe.Recipe.{Recipe}
use Rattle.astc_model.specs.Nearest.{nearest_weight}
use Rattle.astc_model.specs.Bounds.{bounds_of, part_map}
use Rattle.astc_model.specs.Targets.{place_of_point, target}
use Rattle.astc_model.specs.declared.block.Coded.{Coded as CodedFields}
use Rattle.astc_model.specs.Candidates.{Ends, no_ends, cems_of, integers_of, ends_of, colours_of, ends_by_part}
use Rattle.candidates.specs.declared.colours.Palette.{Palette}
use Rattle.candidates.specs.declared.weights.Targets.{Targets}

-- ---- pieces for a number of partitions and a seed

-- the bounds of each of the first partitions over the first n places
unfoldable pub bounds_by_part : List ℕ → ℕ → List (Option Texel) → ℕ → List Box8
bounds_by_part parts count places n = map (λ part. bounds_of parts part places n)
    (range_with_len 0 count)

-- ---- pieces for the above, an endpoint mode, a flip and a level of colour integers

-- the bounds for missing partitions
abbrev pub no_bounds : Box8
no_bounds = record { lo = []; hi = [] }

-- the colour integers of a partition, from the list of the bounds of all partitions
unfoldable pub integers_from : Recipe → Level → List Box8 → ℕ → List ℕ
integers_from recipe level bounds part =
    integers_of recipe level (slice_index_or bounds part no_bounds)

-- the two endpoints of a partition, from the list of the bounds of all partitions
unfoldable pub ends_of_part_from : Recipe → Level → List Box8 → ℕ → Ends
ends_of_part_from recipe level bounds part =
    ends_of recipe.cem level (integers_from recipe level bounds part)

-- the colour integers of all partitions, from their bounds
unfoldable pub colours_from : Recipe → Level → List Box8 → List ℕ
colours_from recipe level bounds = flat_map (integers_from recipe level bounds)
    (range_with_len 0 recipe.parts)

-- the two endpoints of each partition, from their bounds
unfoldable pub ends_from : Recipe → Level → List Box8 → List Ends
ends_from recipe level bounds = map (ends_of_part_from recipe level bounds)
    (range_with_len 0 recipe.parts)

-- the palette has the colour integers and the endpoints of the recipe's block, which do not depend
-- on its block mode
pub record IsPalette (w h : ℕ) (recipe : Recipe) (places : List (Option Texel))
    (palette : Palette) : Type 0 where
  pub colours : palette.colours.items ≡ colours_of recipe palette.level
      (part_map w h recipe.parts recipe.seed) places (w * h)
  pub ends : palette.ends.items ≡ ends_by_part recipe palette.level
      (part_map w h recipe.parts recipe.seed) places (w * h)

-- ---- pieces for a grid

-- the place from which each point of a grid of n by m takes its weight
unfoldable pub grid_places : (w h n m : ℕ) → List (Option Texel) → List (Option ℕ)
grid_places w h n m places = map (place_of_point w h n m places) (range_with_len 0 (n * m))

-- ---- pieces for the partitions and their endpoints

-- the target of a texel between two endpoints; 0 outside the image
abbrev pub texel_target : ℕ → ℕ → Option Texel → Ends → ℕ
texel_target component plane None ends = 0
texel_target component plane (Some q) ends = target component plane q ends.0 ends.1

-- the target at place p
unfoldable pub place_target : ℕ → ℕ → List ℕ → List Ends → List (Option Texel) → ℕ → ℕ
place_target component plane parts ends places p =
    texel_target component plane (slice_index_or places p None)
    (slice_index_or ends (slice_index parts p) no_ends)

-- the target at each of n places
unfoldable pub target_map : ℕ → ℕ → List ℕ → List Ends → List (Option Texel) → ℕ → List ℕ
target_map component plane parts ends places n =
    map (place_target component plane parts ends places) (range_with_len 0 n)

-- the targets of the first n places for blocks with one or two planes; those of the second plane
-- matter only with two
pub record AreTargets (component planes : ℕ) (parts : List ℕ) (ends : List Ends)
    (places : List (Option Texel)) (n : ℕ) (targets : Targets) : Type 0 where
  pub first : take n targets.first ≡ target_map component 0 parts ends places n
  pub second : planes ≡ 2 → take n targets.second ≡ target_map component 1 parts ends places n
  pub first_small : All (λ target. target ≤ 64) (take n targets.first)
  pub second_small : All (λ target. target ≤ 64) (take n targets.second)

-- ---- the weights

-- the target at the place of a grid point; 0 without a place
abbrev pub point_target : List ℕ → Option ℕ → ℕ
point_target targets None = 0
point_target targets (Some p) = slice_index targets p

-- the list of the plane
abbrev pub of_plane : ℕ → List ℕ → List ℕ → List ℕ
of_plane plane first second = if plane == 0 then first else second

-- weight integer `at` of a block, from the places of the grid points and the targets of both planes
unfoldable pub weight_from : Level → ℕ → List (Option ℕ) → List ℕ → List ℕ → ℕ → ℕ
weight_from level planes grid first second at =
    nearest_weight level (point_target (of_plane (at % planes) first second)
    (slice_index_or grid (at / planes) None))

-- the first `count` weight integers of a block
unfoldable pub weights_from : Level → ℕ → ℕ → List (Option ℕ) → List ℕ → List ℕ → List ℕ
weights_from level planes count grid first second = map (weight_from level planes grid first second)
    (range_with_len 0 count)

-- ---- the block

-- the block of a recipe with these colour integers and weights
abbrev pub assembled : Recipe → List ℕ → List ℕ → CodedFields
assembled recipe colours weights = record {
  mode = recipe.mode;
  parts = recipe.parts;
  seed = recipe.seed;
  selector = 0;
  cems = cems_of recipe;
  colours = record { items = colours };
  weights = record { items = weights };
  plane = recipe.plane;
}
