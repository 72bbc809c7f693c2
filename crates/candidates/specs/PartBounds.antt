-- The defining property of the bounds of a partition.
use Rattle.std.specs.Prelude.{◌≡◌, ℕ, ◌<◌, ◌≤◌, List, Option, Some, None, slice_index, slice_index_or}
use Rattle.astc_model.specs.Places.{Texel, channel}
use Rattle.astc_model.specs.Bounds.{no_colour}
use Rattle.astc_model.specs.declared.bounds.Box8.{Box8}

-- an inside place of the partition has this texel
pub record IsTexelOf (parts : List ℕ) (part : ℕ) (places : List (Option Texel))
    (texel : Texel) : Type 0 where
  pub place : ℕ
  pub of_part : slice_index parts place ≡ part
  pub inside : slice_index_or places place None ≡ Some texel

-- some texel of the partition has this value in channel c
abbrev pub IsReached : List ℕ → ℕ → List (Option Texel) → (c value : ℕ) → Type 0
IsReached parts part places c value = (texel : Texel) × IsTexelOf parts part places texel
    × (channel c texel ≡ value)

-- in each channel, every texel of the partition lies between the bounds, and some texel has each
-- bound; if the partition has no texel, the bounds are 0
pub record AreBounds (parts : List ℕ) (part : ℕ) (places : List (Option Texel))
    (bounds : Box8) : Type 0 where
  pub least : (texel : Texel) → IsTexelOf parts part places texel → (c : ℕ) → c < 4
      → channel c bounds.lo ≤ channel c texel
  pub greatest : (texel : Texel) → IsTexelOf parts part places texel → (c : ℕ) → c < 4
      → channel c texel ≤ channel c bounds.hi
  pub least_reached : (texel : Texel) → IsTexelOf parts part places texel → (c : ℕ) → c < 4
      → IsReached parts part places c (channel c bounds.lo)
  pub greatest_reached : (texel : Texel) → IsTexelOf parts part places texel → (c : ℕ) → c < 4
      → IsReached parts part places c (channel c bounds.hi)
  pub none : ((texel : Texel) → IsTexelOf parts part places texel → ⊥) → (bounds.lo ≡ no_colour)
      × (bounds.hi ≡ no_colour)
