-- The candidate of a recipe: the block that the recipe makes of a source.
use Rattle.std.specs.Prelude.{ℕ, ◌*◌, ◌/◌, ◌%◌, ◌==◌, nat_lt, if◌then◌else◌, Bool, false, ◌&&◌, List, [], ◌∷◌, map, Option, None, Some, slice_index, slice_index_or}
use Rattle.std.specs.List.{range_with_len, flat_map}
use Rattle.std.specs.Option.{is_none}
use Rattle.std.specs.Result.{result_ok}
use Rattle.astc_model.specs.Places.{Texel}
use Rattle.astc_model.specs.declared.level.Level.{Level}
use Rattle.astc_model.specs.declared.bounds.Box8.{Box8}
use Rattle.astc_model.specs.declared.mode.Mode.{Mode}
use Rattle.astc_model.specs.declared.recipe.Recipe.{Recipe}
use Rattle.astc_model.specs.declared.block.Block.{Block}
use Rattle.astc_model.specs.declared.block.BlockFault.{BlockFault}
use Rattle.astc_model.specs.declared.block.Coded.{Coded as CodedFields}
use Rattle.astc_model.specs.declared.block.Block.TheVariants.{Coded}
use Rattle.astc_model.specs.Modes.{decoded_mode}
use Rattle.astc_model.specs.Shapes.{weight_count, grid_fault, colour_shape, fault_under}
use Rattle.astc_model.specs.ColourValues.{colour_value}
use Rattle.astc_model.specs.Nearest.{nearest_colour, nearest_weight}
use Rattle.astc_model.specs.Endpoints.{endpoint_colours}
use Rattle.astc_model.specs.Bounds.{bounds_of, part_map, no_colour}
use Rattle.astc_model.specs.Ideal.{ideal}
use Rattle.astc_model.specs.Targets.{place_of_point, target}

-- the endpoint modes of a recipe's block: the same in all partitions, 0 for missing partitions
abbrev pub cems_of : Recipe → List ℕ
cems_of recipe =
    recipe.cem ∷ (if nat_lt 1 recipe.parts then recipe.cem else 0)
    ∷ (if nat_lt 2 recipe.parts then recipe.cem else 0)
    ∷ (if nat_lt 3 recipe.parts then recipe.cem else 0) ∷ []

-- ---- which recipes are legal

-- the level of the colour integers; None if the grid or the colours have a fault
abbrev pub level_on : Recipe → Mode → Option BlockFault → Option Level
level_on recipe mode (Some fault) = None
level_on recipe mode None = result_ok (colour_shape mode recipe.parts 0 (cems_of recipe))

-- whether the mode has as many planes as the recipe: two if the recipe names a component, else one
abbrev pub has_planes : Recipe → Mode → Bool
has_planes recipe mode = if recipe.plane == 0 then mode.planes == 1 else mode.planes == 2

-- the level of the colour integers of a recipe with this decoded mode; None if the recipe is not
-- legal for footprints of w by h
unfoldable pub recipe_level : ℕ → ℕ → Recipe → Mode → Option Level
recipe_level w h recipe mode = if has_planes recipe mode then level_on recipe mode
    (grid_fault w h mode) else None

-- ---- the block

-- the colour integers of a partition with these bounds: the ideal colour values, quantized to the
-- closest integers
unfoldable pub integers_of : Recipe → Level → Box8 → List ℕ
integers_of recipe level bounds =
    map (nearest_colour level) (ideal recipe.cem recipe.flip bounds.lo bounds.hi)

-- the two endpoints that colour integers of a level encode
unfoldable pub ends_of : ℕ → Level → List ℕ → Texel × Texel
ends_of cem level integers = endpoint_colours cem (map (colour_value level) integers)

-- the colour integers of a partition of a recipe's block
unfoldable pub integers_by_part : Recipe → Level → List ℕ → List (Option Texel) → ℕ → ℕ → List ℕ
integers_by_part recipe level parts places n part =
    integers_of recipe level (bounds_of parts part places n)

-- two endpoints of a partition
abbrev pub Ends : Type 0
Ends = Texel × Texel

-- the endpoints that stand for a missing partition
abbrev pub no_ends : Ends
no_ends = (no_colour, no_colour)

-- the weight integer for a texel between two endpoints in one plane; a place outside the image
-- counts as the weight 0
unfoldable pub weight_of : ℕ → Level → ℕ → Option Texel → Ends → ℕ
weight_of component level plane None ends = nearest_weight level 0
weight_of component level plane (Some q) ends =
    nearest_weight level (target component plane q ends.0 ends.1)

-- the weight integer of a grid point in one plane, from the place that belongs to the point
abbrev pub weight_at : ℕ → Level → List ℕ → List Ends → List (Option Texel) → ℕ → Option ℕ → ℕ
weight_at component level parts ends places plane None = nearest_weight level 0
weight_at component level parts ends places plane (Some p) =
    weight_of component level plane (slice_index_or places p None)
    (slice_index_or ends (slice_index parts p) no_ends)

-- weight integer `at` of a block: the integers are in the order of the grid points in rows from the
-- top, with those of both planes together
unfoldable pub weight : ℕ → ℕ → ℕ → Mode → List ℕ → List Ends → List (Option Texel) → ℕ → ℕ
weight w h component mode parts ends places at =
    weight_at component mode.level parts ends places (at % mode.planes)
    (place_of_point w h mode.across mode.down places (at / mode.planes))

-- the colour integers of all partitions, partition 0 first
unfoldable pub colours_of : Recipe → Level → List ℕ → List (Option Texel) → ℕ → List ℕ
colours_of recipe level parts places n = flat_map (integers_by_part recipe level parts places n)
    (range_with_len 0 recipe.parts)

-- the two endpoints of a partition of a recipe's block
unfoldable pub ends_of_part : Recipe → Level → List ℕ → List (Option Texel) → ℕ → ℕ → Ends
ends_of_part recipe level parts places n part =
    ends_of recipe.cem level (integers_by_part recipe level parts places n part)

-- the two endpoints of each partition of a recipe's block
unfoldable pub ends_by_part : Recipe → Level → List ℕ → List (Option Texel) → ℕ → List Ends
ends_by_part recipe level parts places n = map (ends_of_part recipe level parts places n)
    (range_with_len 0 recipe.parts)

-- all weight integers of a block
unfoldable pub weights_of : ℕ → ℕ → ℕ → Mode → List ℕ → List Ends → List (Option Texel) → List ℕ
weights_of w h component mode parts ends places = map (weight w h component mode parts ends places)
    (range_with_len 0 (weight_count mode))

-- the block of a recipe with this mode and this level of colour integers; `parts` has the partition
-- of each place
unfoldable pub coded_on : ℕ → ℕ → Recipe → Mode → Level → List ℕ → List (Option Texel) → CodedFields
coded_on w h recipe mode level parts places = record {
  mode = recipe.mode;
  parts = recipe.parts;
  seed = recipe.seed;
  selector = 0;
  cems = cems_of recipe;
  colours = record { items = colours_of recipe level parts places (w * h) };
  weights = record {
    items = weights_of w h recipe.plane mode parts
        (ends_by_part recipe level parts places (w * h)) places;
  };
  plane = recipe.plane;
}

-- the block of a recipe with this mode and this level of colour integers
abbrev pub coded_of : ℕ → ℕ → Recipe → Mode → Level → List (Option Texel) → CodedFields
coded_of w h recipe mode level places = coded_on w h recipe mode level
    (part_map w h recipe.parts recipe.seed) places

-- the candidate from the level of its colour integers; None without a level
abbrev pub candidate_at : ℕ → ℕ → Recipe → Mode → Option Level → List (Option Texel) → Option Block
candidate_at w h recipe mode None places = None
candidate_at w h recipe mode (Some level) places =
    Some (Coded (coded_of w h recipe mode level places))

-- the candidate from its decoded mode; None without a mode
abbrev pub candidate_under : ℕ → ℕ → Recipe → Option Mode → List (Option Texel) → Option Block
candidate_under w h recipe None places = None
candidate_under w h recipe (Some mode) places =
    candidate_at w h recipe mode (recipe_level w h recipe mode) places

-- the candidate of a recipe; None if the recipe is not legal for footprints of w by h
unfoldable pub candidate : ℕ → ℕ → Recipe → List (Option Texel) → Option Block
candidate w h recipe places = candidate_under w h recipe (decoded_mode recipe.mode) places

-- ---- legal recipes, defined by the faults of the block's shape

-- the block of a recipe without its integers
abbrev pub shape_of : Recipe → CodedFields
shape_of recipe = record {
  mode = recipe.mode;
  parts = recipe.parts;
  seed = recipe.seed;
  selector = 0;
  cems = cems_of recipe;
  colours = record { items = [] };
  weights = record { items = [] };
  plane = recipe.plane;
}

-- whether a recipe with this decoded mode is legal for footprints of w by h
abbrev pub is_legal_under : ℕ → ℕ → Recipe → Option Mode → Bool
is_legal_under w h recipe None = false
is_legal_under w h recipe (Some mode) = has_planes recipe mode
    && is_none (fault_under w h (shape_of recipe) (Some mode))

-- whether a recipe is legal for footprints of w by h: its mode is not reserved and has the planes
-- of the recipe, and the shape of its block has no fault
unfoldable pub is_legal_recipe : ℕ → ℕ → Recipe → Bool
is_legal_recipe w h recipe = is_legal_under w h recipe (decoded_mode recipe.mode)
