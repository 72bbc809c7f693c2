-- The partition of each place, and the bounds of a partition: the least and greatest value of each
-- channel over its texels.
use Rattle.std.specs.Prelude.{ℕ, ◌*◌, ◌/◌, ◌%◌, min, max, ◌==◌, if◌then◌else◌, List, [], ◌∷◌, map, Option, None, Some, slice_index, slice_index_or}
use Rattle.std.proofs.Common.{zero, suc}
use Rattle.std.specs.List.{range_with_len}
use Rattle.astc_model.specs.Places.{Texel, channel}
use Rattle.astc_model.specs.Partitions.{part_of}
use Rattle.astc_model.specs.declared.bounds.Box8.{Box8}

-- the partition of each place of a block, in rows from the top
unfoldable pub part_map : (w h parts seed : ℕ) → List ℕ
part_map w h parts seed = map (λ p. part_of w h parts seed (p % w) (p / w))
    (range_with_len 0 (w * h))

-- the texel of place p, if the place is inside the image and belongs to the partition
unfoldable pub texel_in : List ℕ → ℕ → List (Option Texel) → ℕ → Option Texel
texel_in parts part places p = if slice_index parts p == part then slice_index_or places p None else
    None

-- the texel whose channels are f of the channels of two texels
abbrev pub by_channel : (ℕ → ℕ → ℕ) → Texel → Texel → Texel
by_channel f a b = f (channel 0 a) (channel 0 b) ∷ f (channel 1 a) (channel 1 b) ∷ f (channel 2 a)
    (channel 2 b) ∷ f (channel 3 a) (channel 3 b) ∷ []

-- 0 in all four channels
abbrev pub no_colour : Texel
no_colour = 0 ∷ 0 ∷ 0 ∷ 0 ∷ []

-- the bounds extended by one more texel
abbrev pub widened_by : Option Texel → Option Box8 → Option Box8
widened_by None bounds = bounds
widened_by (Some texel) None = Some (record { lo = texel; hi = texel })
widened_by (Some texel) (Some bounds) =
    Some (record { lo = by_channel min bounds.lo texel; hi = by_channel max bounds.hi texel })

-- the bounds of the texels at the places below p; None if there are none
unfoldable pub bounds_below : (ℕ → Option Texel) → ℕ → Option Box8
bounds_below texel zero = None
bounds_below texel (suc p) = widened_by (texel p) (bounds_below texel p)

-- the bounds, or 0 in each channel if there are no texels
abbrev pub or_zero : Option Box8 → Box8
or_zero None = record { lo = no_colour; hi = no_colour }
or_zero (Some bounds) = bounds

-- the bounds of a partition over the first n places
abbrev pub bounds_of : List ℕ → ℕ → List (Option Texel) → ℕ → Box8
bounds_of parts part places n = or_zero (bounds_below (texel_in parts part places) n)
