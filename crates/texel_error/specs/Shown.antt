-- The texel between two endpoints, with a weight for each channel (Khronos Data Format
-- Specification, ASTC, "Weight Application").
use Rattle.std.specs.Prelude.{ℕ, ◌+◌, ◌*◌, ◌/◌, ◌==◌, if◌then◌else◌, List, [], ◌∷◌}
use Rattle.astc_model.specs.declared.flavour.Flavour.{Flavour}
use Rattle.astc_model.specs.declared.flavour.Flavour.TheVariants.{Linear, Srgb}
use Rattle.astc_model.specs.Places.{Texel, channel}
use Rattle.astc_model.specs.CodedTexels.{widened, mixed}

-- the two endpoints of a partition, each with red, green, blue and alpha
abbrev pub Ends : Type 0
Ends = List ℕ × List ℕ

-- the decoded byte of channel c between two endpoints, for a weight of 0 to 64
abbrev pub shown_channel : Flavour → Ends → ℕ → ℕ → ℕ
shown_channel flavour ends weight c = mixed (widened flavour c (channel c ends.0))
    (widened flavour c (channel c ends.1)) weight / 256

-- the decoded texel between two endpoints, where each channel has its own weight
abbrev pub shown_texel : Flavour → Ends → (ℕ → ℕ) → Texel
shown_texel flavour ends weight =
    shown_channel flavour ends (weight 0) 0 ∷ shown_channel flavour ends (weight 1) 1
    ∷ shown_channel flavour ends (weight 2) 2 ∷ shown_channel flavour ends (weight 3) 3 ∷ []

-- the decoded byte of channel c, from the interpolation of two bytes multiplied by 64
abbrev pub top_of : Flavour → ℕ → ℕ → ℕ
top_of Linear c mix = (257 * mix + 32) / 64 / 256
top_of Srgb c mix = if c == 3 then (257 * mix + 32) / 64 / 256 else
    (256 * mix + 8192 + 32) / 64 / 256

-- the plane of channel c, if `plane` is the channel of the second plane, 1 to 4, or 0
abbrev pub plane_at : ℕ → ℕ → ℕ
plane_at plane c = if plane == c + 1 then 1 else 0
