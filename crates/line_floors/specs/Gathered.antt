-- The sums over the texels of each partition of a source.
use Rattle.std.specs.Prelude.{◌≡◌, ℕ, ◌<◌, List, Option, slice_index_or}
use Rattle.astc_model.specs.Places.{Texel}
use Rattle.astc_model.specs.declared.flavour.Flavour.{Flavour}
use Rattle.line_floors.specs.declared.block_sums.BlockSums.{BlockSums}
use Rattle.line_floors.specs.declared.part_sums.PartitionSums.{PartitionSums}
use Rattle.line_floors.specs.Sums.{no_part, sums_below}

-- the sums are those over the texels of each partition among the first n places
abbrev pub ArePartSums : (n : ℕ) → Flavour → List (Option Texel) → (parts : List ℕ)
    → List PartitionSums → Type 0
ArePartSums n flavour places parts sums = (part : ℕ) → part < 4 → slice_index_or sums part no_part
    ≡ sums_below flavour places parts part n

-- the sums of a block are those of its partitions; `is_opaque` may have any value
abbrev pub AreBlockSums : (n : ℕ) → Flavour → List (Option Texel) → (parts : List ℕ) → BlockSums
    → Type 0
AreBlockSums n flavour places parts sums = ArePartSums n flavour places parts sums.parts
