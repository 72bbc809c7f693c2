-- A shape in its partitions.
use Rattle.std.proofs.Common.{◌≡◌, ℕ, ◌*◌, length, take, ap, sym, subst, ◌∙◌}
use Rattle.std.specs.List.{All}
use Rattle.astc_model.specs.Bounds.{part_map}
use Rattle.astc_model.specs.Endpoints.{endpoint_integers}
use Rattle.recipes.specs.Shapes.{IsShape}
use Rattle.candidates.specs.Pieces.{bounds_by_part}
use Rattle.candidates.specs.LevelColours.{AreIdealsTo}
use Rattle.line_floors.specs.Gathered.{AreBlockSums}
use Rattle.texel_error.specs.Goals.{GoalView}
use Rattle.texel_error.specs.PlaceColours.{ArePartitionLanes}
use Rattle.listed_walk.specs.declared.levels.SourceShape.{SourceShape}
use Rattle.listed_walk.specs.declared.partitionings.SourcePartitioning.{SourcePartitioning}
use Rattle.listed_walk.specs.Partitionings.{IsPartitioned}
use Rattle.listed_walk.specs.Shared.{IsSourceShape}

pub layout_is : (w h : ℕ) (goal : GoalView) (own : SourcePartitioning) (layout : SourceShape)
    → IsPartitioned w h goal own → IsShape layout.shape.now → own.count ≡ layout.shape.now.parts
    → own.seed ≡ layout.shape.now.seed → layout.parts.now ≡ take (w * h) own.map
    → layout.partitions.now ≡ own.lanes → layout.bounds.now ≡ own.bounds.items
    → layout.sums.now ≡ own.sums
    → AreIdealsTo layout.shape.now layout.bounds.now layout.shape.now.parts layout.ideals.now
    → All (λ values. length values.items ≡ endpoint_integers layout.shape.now.cem) layout.ideals.now
    → IsSourceShape w h goal layout
layout_is w h goal own layout is fields count seed parts lanes bounds sums ideals counts = record {
  sides = is.sides;
  mapped = record {
    fields = fields;
    map = parts ∙ is.map ∙ ap (λ n. part_map w h n own.seed) count
        ∙ ap (part_map w h layout.shape.now.parts) seed;
    within = λ p below. rw (parts, ← count) (is.within p below);
    all = ap length parts ∙ is.all;
  };
  partitions = subst (ArePartitionLanes w h layout.parts.now) (sym lanes)
      (subst (λ map. ArePartitionLanes w h map own.lanes) (sym parts) is.lanes);
  bounds = bounds ∙ is.bounds ∙ ap (λ map. bounds_by_part map own.count goal.places (w * h))
      (sym parts) ∙ ap (λ n. bounds_by_part layout.parts.now n goal.places (w * h)) count;
  count = ap length bounds ∙ is.count ∙ count;
  ideals = ideals;
  ideal_counts = counts;
  sums = subst (λ s. AreBlockSums (w * h) goal.flavour goal.places layout.parts.now s) (sym sums)
      (subst (λ map. AreBlockSums (w * h) goal.flavour goal.places map own.sums)
      (sym parts) is.sums);
}
