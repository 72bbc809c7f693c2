-- Sums over texels of their targets. The target of a channel is the blend of two endpoints that
-- decodes to the texel, in units of 1/512 of a step between bytes.
use Rattle.std.specs.Prelude.{ℕ, zero, suc, ◌+◌, ◌*◌, ◌/◌, ◌≤◌, ◌==◌, if◌then◌else◌, List, [], ◌∷◌, Option, None, Some, slice_index, slice_index_or}
use Rattle.std.specs.List.{All}
use Rattle.astc_model.specs.Places.{Texel, channel}
use Rattle.astc_model.specs.declared.flavour.Flavour.{Flavour}
use Rattle.astc_model.specs.declared.flavour.Flavour.TheVariants.{Linear, Srgb}
use Rattle.line_floors.specs.declared.part_sums.PartitionSums.{PartitionSums}

-- the factor of an endpoint byte in its widened channel; in sRGB, alpha, which is widened by 257,
-- is converted to the units of the other channels
abbrev pub scale : Flavour → ℕ
scale Linear = 257
scale Srgb = 256

-- the target of channel c: the middle of the blends that decode to the byte `wanted`. The blend of
-- two equal endpoints is twice `scale` times their byte.
abbrev pub middle : Flavour → (c wanted : ℕ) → ℕ
middle Linear c wanted = 512 * wanted + 255
middle Srgb c wanted = if c == 3 then (131072 * wanted + 65408) / 257 else 512 * wanted

-- the targets of the four channels of a texel
abbrev pub targets : Flavour → Texel → List ℕ
targets flavour wanted =
    middle flavour 0 (channel 0 wanted) ∷ middle flavour 1 (channel 1 wanted)
    ∷ middle flavour 2 (channel 2 wanted) ∷ middle flavour 3 (channel 3 wanted) ∷ []

-- the sums of four channels after the targets of a texel are added
abbrev pub plus_targets : (sums targets : List ℕ) → List ℕ
plus_targets sums targets =
    (slice_index sums 0 + slice_index targets 0) ∷ (slice_index sums 1 + slice_index targets 1)
    ∷ (slice_index sums 2 + slice_index targets 2) ∷ (slice_index sums 3 + slice_index targets 3)
    ∷ []

-- the sums of four channels after the targets of a texel, times a factor, are added
abbrev pub plus_products : (sums : List ℕ) → (factor : ℕ) → (targets : List ℕ) → List ℕ
plus_products sums factor targets =
    (slice_index sums 0 + factor * slice_index targets 0)
    ∷ (slice_index sums 1 + factor * slice_index targets 1)
    ∷ (slice_index sums 2 + factor * slice_index targets 2)
    ∷ (slice_index sums 3 + factor * slice_index targets 3) ∷ []

-- the sums over an empty set of texels
abbrev pub no_sums : PartitionSums
no_sums = record {
  count = 0;
  sums = 0 ∷ 0 ∷ 0 ∷ 0 ∷ [];
  red = 0 ∷ 0 ∷ 0 ∷ 0 ∷ [];
  green = 0 ∷ 0 ∷ 0 ∷ 0 ∷ [];
  blue = 0 ∷ 0 ∷ 0 ∷ 0 ∷ [];
  alpha = 0 ∷ 0 ∷ 0 ∷ 0 ∷ [];
}

-- the sums for a missing partition
abbrev pub no_part : PartitionSums
no_part = record { count = 0; sums = []; red = []; green = []; blue = []; alpha = [] }

-- the sums after a texel with these targets is added
abbrev pub with_texel : PartitionSums → (targets : List ℕ) → PartitionSums
with_texel part_sums targets = record {
  count = part_sums.count + 1;
  sums = plus_targets part_sums.sums targets;
  red = plus_products part_sums.red (slice_index targets 0) targets;
  green = plus_products part_sums.green (slice_index targets 1) targets;
  blue = plus_products part_sums.blue (slice_index targets 2) targets;
  alpha = plus_products part_sums.alpha (slice_index targets 3) targets;
}

-- the sums are within the ranges of those of n texels
pub record AreSumsWithin (n : ℕ) (part_sums : PartitionSums) : Type 0 where
  pub count_within : part_sums.count ≤ n
  pub sums_within : All (λ sum. sum ≤ 130815 * n) part_sums.sums
  pub red_within : All (λ sum. sum ≤ 17112564225 * n) part_sums.red
  pub green_within : All (λ sum. sum ≤ 17112564225 * n) part_sums.green
  pub blue_within : All (λ sum. sum ≤ 17112564225 * n) part_sums.blue
  pub alpha_within : All (λ sum. sum ≤ 17112564225 * n) part_sums.alpha

-- the sums after a place is added, which counts only if it is inside the image
abbrev pub with_place : Flavour → PartitionSums → Option Texel → PartitionSums
with_place flavour part_sums None = part_sums
with_place flavour part_sums (Some wanted) = with_texel part_sums (targets flavour wanted)

-- the sums over the texels of a partition among the places below n
unfoldable pub sums_below : Flavour → List (Option Texel) → List ℕ → (part n : ℕ) → PartitionSums
sums_below flavour places parts part zero = no_sums
sums_below flavour places parts part (suc n) =
    if slice_index parts n == part
    then with_place flavour (sums_below flavour places parts part n) (slice_index_or places n None)
    else sums_below flavour places parts part n
