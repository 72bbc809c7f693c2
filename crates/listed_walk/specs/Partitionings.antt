-- The data that the shapes with one partitioning of a source share.
use Rattle.std.specs.Prelude.{◌≡◌, ℕ, ◌*◌, ◌<◌, IsTrue, Option, None, Some, length, take, slice_index}
use Rattle.astc_model.specs.Footprints.{is_footprint}
use Rattle.astc_model.specs.Bounds.{part_map}
use Rattle.astc_model.specs.declared.recipe.Recipe.{Recipe}
use Rattle.candidates.specs.Pieces.{bounds_by_part}
use Rattle.line_floors.specs.Gathered.{AreBlockSums}
use Rattle.texel_error.specs.Goals.{GoalView}
use Rattle.texel_error.specs.PlaceColours.{ArePartitionLanes}
use Rattle.listed_walk.specs.declared.partitionings.SourcePartitioning.{SourcePartitioning}

-- the part of each place, with the bounds and the sums of all parts
pub record IsPartitioned (w h : ℕ) (goal : GoalView) (own : SourcePartitioning) : Type 0 where
  pub sides : IsTrue (is_footprint w h)
  pub whole : length own.map ≡ 144
  pub map : take (w * h) own.map ≡ part_map w h own.count own.seed
  pub within : (p : ℕ) → p < w * h → slice_index (take (w * h) own.map) p < own.count
  pub all : length (take (w * h) own.map) ≡ w * h
  pub lanes : ArePartitionLanes w h (take (w * h) own.map) own.lanes
  pub bounds : own.bounds.items ≡ bounds_by_part (take (w * h) own.map) own.count goal.places
      (w * h)
  pub count : length own.bounds.items ≡ own.count
  pub sums : AreBlockSums (w * h) goal.flavour goal.places (take (w * h) own.map) own.sums

-- it is that of a shape
abbrev pub IsOfShape : Recipe → Option SourcePartitioning → Type 0
IsOfShape shape None = ⊥
IsOfShape shape (Some own) = (own.count ≡ shape.parts) × (own.seed ≡ shape.seed)
