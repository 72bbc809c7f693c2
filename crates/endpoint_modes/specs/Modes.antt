-- The numbers of the colour endpoint modes of the LDR profile
-- (Khronos Data Format Specification, ASTC, "Color Endpoint Mode").
use Rattle.std.specs.Prelude.{ℕ}
use Rattle.endpoint_modes.specs.declared.mode.EndpointMode.{EndpointMode}
use Rattle.endpoint_modes.specs.declared.mode.EndpointMode.TheVariants.{LuminanceDirect, LuminanceBaseOffset, LuminanceAlphaDirect, LuminanceAlphaBaseOffset, RgbBaseScale, RgbDirect, RgbBaseOffset, RgbBaseScaleTwoAlpha, RgbaDirect, RgbaBaseOffset}

-- the number that the standard gives the mode
abbrev pub number_of : EndpointMode → ℕ
number_of LuminanceDirect = 0
number_of LuminanceBaseOffset = 1
number_of LuminanceAlphaDirect = 4
number_of LuminanceAlphaBaseOffset = 5
number_of RgbBaseScale = 6
number_of RgbDirect = 8
number_of RgbBaseOffset = 9
number_of RgbBaseScaleTwoAlpha = 10
number_of RgbaDirect = 12
number_of RgbaBaseOffset = 13
