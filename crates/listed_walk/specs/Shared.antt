-- The data that the candidates of a shape share, by the level of their colour integers.
use Rattle.std.specs.Prelude.{◌≡◌, ℕ, ◌*◌, ◌<◌, ◌≤◌, ◌==◌, if◌then◌else◌, IsTrue, List, length, slice_index}
use Rattle.std.specs.List.{All}
use Rattle.astc_model.specs.Footprints.{is_footprint}
use Rattle.astc_model.specs.Bounds.{part_map}
use Rattle.astc_model.specs.Candidates.{Ends, ends_by_part}
use Rattle.astc_model.specs.Endpoints.{endpoint_integers}
use Rattle.astc_model.specs.declared.level.Level.{Level}
use Rattle.astc_model.specs.declared.recipe.Recipe.{Recipe}
use Rattle.astc_model.specs.declared.block.Coded.{Coded as CodedFields}
use Rattle.astc_model.specs.declared.block.Block.TheVariants.{Coded}
use Rattle.recipes.specs.Shapes.{IsShape}
use Rattle.candidates.specs.Pieces.{bounds_by_part}
use Rattle.candidates.specs.LevelColours.{AreIdealsTo}
use Rattle.texel_error.specs.Goals.{GoalView, error_to}
use Rattle.texel_error.specs.PlaceColours.{AreColoursTo, ArePartitionLanes}
use Rattle.line_floors.specs.declared.cutoff.Cutoff.{Cutoff}
use Rattle.line_floors.specs.Floors.{line_weight, IsUnder}
use Rattle.line_floors.specs.Gathered.{AreBlockSums}
use Rattle.line_floors.specs.Lines.{HasColours}
use Rattle.listed_walk.specs.declared.levels.DrawnLanes.{DrawnLanes}
use Rattle.listed_walk.specs.declared.levels.Drawing.{Drawing}
use Rattle.listed_walk.specs.declared.levels.SourceShape.{SourceShape}
use Rattle.listed_walk.specs.declared.levels.Lines.{Lines}
use Rattle.listed_walk.specs.Targets.{AreTargetsTo}

-- the partition of each place for a shape
pub record IsMapped (w h : ℕ) (shape : Recipe) (parts : List ℕ) : Type 0 where
  pub fields : IsShape shape
  pub map : parts ≡ part_map w h shape.parts shape.seed
  pub within : (p : ℕ) → p < w * h → slice_index parts p < shape.parts
  pub all : length parts ≡ w * h

-- a shape with its parts, and what is known of these
pub record IsSourceShape (w h : ℕ) (goal : GoalView) (layout : SourceShape) : Type 0 where
  pub sides : IsTrue (is_footprint w h)
  pub mapped : IsMapped w h layout.shape.now layout.parts.now
  pub partitions : ArePartitionLanes w h layout.parts.now layout.partitions.now
  pub bounds : layout.bounds.now
      ≡ bounds_by_part layout.parts.now layout.shape.now.parts goal.places (w * h)
  pub count : length layout.bounds.now ≡ layout.shape.now.parts
  pub ideals : AreIdealsTo layout.shape.now layout.bounds.now layout.shape.now.parts
      layout.ideals.now
  pub ideal_counts : All (λ values. length values.items ≡ endpoint_integers layout.shape.now.cem)
      layout.ideals.now
  pub sums : AreBlockSums (w * h) goal.flavour goal.places layout.parts.now layout.sums.now

-- the planes of the blocks of a shape
abbrev pub planes_of : Recipe → ℕ
planes_of shape = if shape.plane == 0 then 1 else 2

-- what candidates between these colours are drawn from, by place
pub record AreDrawnLanes (w h : ℕ) (goal : GoalView) (shape : Recipe) (ends : List Ends)
    (lanes : DrawnLanes) : Type 0 where
  pub colours : AreColoursTo (part_map w h shape.parts shape.seed) ends (w * h) lanes.colours
  pub first : AreTargetsTo shape.plane 0 (part_map w h shape.parts shape.seed) ends goal.places
      (w * h) lanes.first
  pub second : 0 < shape.plane → AreTargetsTo shape.plane 1
      (part_map w h shape.parts shape.seed) ends goal.places (w * h) lanes.second
  pub all_first : length lanes.first ≡ 160
  pub all_second : length lanes.second ≡ 160

-- what it takes to draw candidates between these colours, and the colours
pub record IsDrawing (w h : ℕ) (goal : GoalView) (shape : Recipe) (ends : List Ends)
    (drawing : Drawing) : Type 0 where
  pub lanes : AreDrawnLanes w h goal shape ends drawing.lanes.now
  pub colours : drawing.ends.now ≡ ends

-- the two colours of each part at a level
abbrev pub level_ends : (w h : ℕ) → GoalView → Recipe → Level → List Ends
level_ends w h goal shape level =
    ends_by_part shape level (part_map w h shape.parts shape.seed) goal.places (w * h)

-- how much the texels and channels of the lines count in all
abbrev pub layout_weight : GoalView → SourceShape → ℕ
layout_weight goal layout = line_weight goal.weights layout.shape.now.plane layout.sums.now

-- these distances are under the error of each candidate of a shape that has a level, whatever its
-- mode
abbrev pub IsFloor : (w h : ℕ) → GoalView → SourceShape → Level → (distances : ℕ) → Type 0
IsFloor w h goal layout level distances =
    (coded : CodedFields) → HasColours w h layout.shape.now.plane layout.parts.now
    (level_ends w h goal layout.shape.now level) coded
    → IsUnder distances (layout_weight goal layout) (error_to w h goal (Coded coded))

-- the lines of a shape at a level
pub record AreLines (w h : ℕ) (goal : GoalView) (layout : SourceShape) (level : Level)
    (lines : Lines) : Type 0 where
  pub ends : lines.ends.items ≡ level_ends w h goal layout.shape.now level
  pub floor : IsFloor w h goal layout level lines.distances

-- distances from this on say that no candidate has an error under a limit
pub record IsCutoff (goal : GoalView) (layout : SourceShape) (limit : ℕ)
    (cutoff : Cutoff) : Type 0 where
  pub weight : layout_weight goal layout ≤ cutoff.weight
  pub small : cutoff.weight ≤ 34560
  pub limit_is : limit ≤ cutoff.limit
