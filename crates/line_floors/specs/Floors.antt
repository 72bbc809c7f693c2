-- Lower bounds on the error from the squared distances of texels from lines.
use Rattle.std.specs.Prelude.{◌≡◌, ℕ, ◌+◌, ◌*◌, ◌<◌, ◌≤◌, ◌==◌, if◌then◌else◌, Bool, List, [], ◌∷◌, length, slice_index, slice_index_or}
use Rattle.astc_model.specs.Sums.{sum_to}
use Rattle.astc_model.specs.Weights.{Weighting}
use Rattle.astc_model.specs.Candidates.{Ends, no_ends}
use Rattle.astc_model.specs.declared.flavour.Flavour.{Flavour}
use Rattle.moments.specs.Floors.{IsFloored}
use Rattle.line_floors.specs.declared.block_sums.BlockSums.{BlockSums}
use Rattle.line_floors.specs.Sums.{no_part}
use Rattle.line_floors.specs.Lengths.{line_of, distance_of}

-- the weight of channel c; 0 for the component of a second plane, which has other weights
abbrev pub gain : Weighting → (component c : ℕ) → ℕ
gain weights component c = if component == c + 1 then 0 else slice_index weights c

-- the weights of the four channels; 0 for alpha if it is left out
abbrev pub gains : Weighting → (component : ℕ) → (is_opaque : Bool) → List ℕ
gains weights component is_opaque =
    gain weights component 0 ∷ gain weights component 1 ∷ gain weights component 2
    ∷ (if is_opaque then 0 else gain weights component 3) ∷ []

-- the squared distances of a partition's texels from the line through its endpoints
unfoldable pub part_distance : Flavour → (gains : List ℕ) → BlockSums → List Ends → (part : ℕ) → ℕ
part_distance flavour gains sums ends part =
    distance_of (line_of flavour gains (slice_index_or ends part no_ends))
    (slice_index_or sums.parts part no_part)

-- the number of inside texels of a partition; 0 for a missing partition
unfoldable pub part_count : BlockSums → (part : ℕ) → ℕ
part_count sums part = (slice_index_or sums.parts part no_part).count

-- the sum of the channel weights over all texels
unfoldable pub line_weight : Weighting → (component : ℕ) → BlockSums → ℕ
line_weight weights component sums =
    sum_to (slice_index (gains weights component sums.is_opaque)) 4 * sum_to (part_count sums) 4

-- the squared distances, in units of 1/64, are a lower bound on the error, except for rounding;
-- `weight` is the sum of the channel weights over all texels
abbrev pub IsUnder : (distances weight error : ℕ) → Type 0
IsUnder distances weight error = IsFloored (4194304 * distances) 0 error weight

-- the squared distances of the first partitions, up to the one with which they reach `enough`, or
-- of all partitions
pub record AreDistances (flavour : Flavour) (gains : List ℕ) (sums : BlockSums) (ends : List Ends)
    (enough distances : ℕ) : Type 0 where
  pub partitions : ℕ
  pub within : partitions ≤ length ends
  pub are : distances ≡ sum_to (part_distance flavour gains sums ends) partitions
  pub all : distances < enough → partitions ≡ length ends
