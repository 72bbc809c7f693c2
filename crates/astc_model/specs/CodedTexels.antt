-- The texels of a coded block: the two endpoints of the partition, interpolated by the weights
-- (Khronos Data Format Specification, ASTC, "Weight Application" and "Dual-Plane Mode").
use Rattle.std.specs.Prelude.{ℕ, ◌+◌, ◌-◌, ◌*◌, ◌/◌, ◌==◌, if◌then◌else◌, List, [], ◌∷◌, map, take, drop, Option, None, Some, Result, Ok, Err, slice_index}
use Rattle.std.specs.List.{range_with_len}
use Rattle.astc_model.specs.declared.level.Level.{Level}
use Rattle.astc_model.specs.Places.{Texel, channel}
use Rattle.astc_model.specs.FootprintNames.{Flavour}
use Rattle.astc_model.specs.declared.flavour.Flavour.TheVariants.{Linear, Srgb}
use Rattle.astc_model.specs.Modes.{Mode, decoded_mode}
use Rattle.astc_model.specs.Shapes.{CodedFields, colour_count, colour_shape}
use Rattle.astc_model.specs.Endpoints.{endpoint_integers, endpoint_colours}
use Rattle.astc_model.specs.ColourValues.{colour_value}
use Rattle.astc_model.specs.WeightValues.{weight_value}
use Rattle.astc_model.specs.Partitions.{part_of}
use Rattle.astc_model.specs.Infill.{infill}
use Rattle.astc_model.specs.declared.block.BlockFault.{BlockFault}

-- the 8-bit value of channel c of an endpoint, widened to 16 bits by repetition; for red, green and
-- blue in sRGB, the byte is followed by 128
abbrev pub widened : Flavour → ℕ → ℕ → ℕ
widened Linear c value = 257 * value
widened Srgb c value = if c == 3 then 257 * value else 256 * value + 128

-- the interpolation of two 16-bit channels by a weight of 0 to 64
abbrev pub mixed : ℕ → ℕ → ℕ → ℕ
mixed first second weight = (first * (64 - weight) + second * weight + 32) / 64

-- the unquantized weights of one plane, in rows from the top; in the block, the weights of two
-- planes alternate
abbrev pub plane_weights : CodedFields → Mode → ℕ → List ℕ
plane_weights coded mode plane =
    map (λ point. weight_value mode.level
    (slice_index coded.weights.items (point * mode.planes + plane)))
    (range_with_len 0 (mode.across * mode.down))

-- the plane of channel c: 1 if the block names the channel as component of the second plane, else 0
abbrev pub plane_of : CodedFields → ℕ → ℕ
plane_of coded c = if coded.plane == c + 1 then 1 else 0

-- the unquantized colour values of a partition
abbrev pub part_values : CodedFields → Level → ℕ → List ℕ
part_values coded level part =
    map (colour_value level) (take (endpoint_integers (slice_index coded.cems part))
    (drop (colour_count part coded.cems) coded.colours.items))

-- the two endpoints of a partition
abbrev pub part_colours : CodedFields → Level → ℕ → List ℕ × List ℕ
part_colours coded level part = endpoint_colours (slice_index coded.cems part)
    (part_values coded level part)

-- channel c of the texel at column x, row y: the high byte of the interpolated 16 bits
abbrev pub texel_channel : ℕ → ℕ → Flavour → CodedFields → Mode → Level → ℕ → ℕ → ℕ → ℕ
texel_channel w h flavour coded mode level x y c =
    let colours = part_colours coded level (part_of w h coded.parts coded.seed x y) in
    let weight = infill w h mode.across mode.down x y
    (plane_weights coded mode (plane_of coded c)) in
    mixed (widened flavour c (channel c colours.0)) (widened flavour c (channel c colours.1))
    weight / 256

-- the error colour, which a decoder of the LDR profile shows for an illegal encoding
abbrev pub error_colour : Texel
error_colour = 255 ∷ 0 ∷ 255 ∷ 255 ∷ []

-- the texel at column x, row y, from the decoded mode and the level of the colour integers; the
-- error color without a level
abbrev pub texel_at_level : ℕ → ℕ → Flavour → CodedFields → Mode → Result Level BlockFault → ℕ → ℕ
    → Texel
texel_at_level w h flavour coded mode (Err fault) x y = error_colour
texel_at_level w h flavour coded mode (Ok level) x y =
    map (texel_channel w h flavour coded mode level x y) (0 ∷ 1 ∷ 2 ∷ 3 ∷ [])

-- the texel at column x, row y, from the decoded mode; the error colour without a mode
abbrev pub texel_under : ℕ → ℕ → Flavour → CodedFields → Option Mode → ℕ → ℕ → Texel
texel_under w h flavour coded None x y = error_colour
texel_under w h flavour coded (Some mode) x y =
    texel_at_level w h flavour coded mode (colour_shape mode coded.parts coded.selector coded.cems)
    x y

-- the texel, 8 bits per channel, of a coded block of w by h texels at column x, row y; the error
-- color if its mode is reserved or its colours have a fault, which cannot happen in a legal block
unfoldable pub coded_texel : ℕ → ℕ → Flavour → CodedFields → ℕ → ℕ → Texel
coded_texel w h flavour coded x y = texel_under w h flavour coded (decoded_mode coded.mode) x y
