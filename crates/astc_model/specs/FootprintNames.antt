-- The names of the footprints: their sides, the numbers of their formats in OpenGL, and their words
-- on the command line.
use Rattle.std.specs.Prelude.{ℕ, ◌+◌, List, codes}
pub use Rattle.astc_model.specs.declared.flavour.Flavour.{Flavour}
use Rattle.astc_model.specs.declared.flavour.Flavour.TheVariants.{Linear, Srgb}
pub use Rattle.astc_model.specs.declared.footprint_name.FootprintName.{FootprintName}
use Rattle.astc_model.specs.declared.footprint_name.FootprintName.TheVariants.{F4x4, F5x4, F5x5, F6x5, F6x6, F8x5, F8x6, F8x8, F10x5, F10x6, F10x8, F10x10, F12x10, F12x12}

-- the width and height in texels
abbrev pub sides_of : FootprintName → ℕ × ℕ
sides_of F4x4 = (4, 4)
sides_of F5x4 = (5, 4)
sides_of F5x5 = (5, 5)
sides_of F6x5 = (6, 5)
sides_of F6x6 = (6, 6)
sides_of F8x5 = (8, 5)
sides_of F8x6 = (8, 6)
sides_of F8x8 = (8, 8)
sides_of F10x5 = (10, 5)
sides_of F10x6 = (10, 6)
sides_of F10x8 = (10, 8)
sides_of F10x10 = (10, 10)
sides_of F12x10 = (12, 10)
sides_of F12x12 = (12, 12)

-- the index of the footprint in the order of the formats' numbers
abbrev pub footprint_place : FootprintName → ℕ
footprint_place F4x4 = 0
footprint_place F5x4 = 1
footprint_place F5x5 = 2
footprint_place F6x5 = 3
footprint_place F6x6 = 4
footprint_place F8x5 = 5
footprint_place F8x6 = 6
footprint_place F8x8 = 7
footprint_place F10x5 = 8
footprint_place F10x6 = 9
footprint_place F10x8 = 10
footprint_place F10x10 = 11
footprint_place F12x10 = 12
footprint_place F12x12 = 13

-- the number of the format in OpenGL (KHR_texture_compression_astc_ldr)
abbrev pub gl_of : FootprintName → Flavour → ℕ
gl_of name Linear = 0x93B0 + footprint_place name
gl_of name Srgb = 0x93D0 + footprint_place name

-- the word for the footprint on the command line
abbrev pub footprint_word : FootprintName → List ℕ
footprint_word F4x4 = codes "4x4"
footprint_word F5x4 = codes "5x4"
footprint_word F5x5 = codes "5x5"
footprint_word F6x5 = codes "6x5"
footprint_word F6x6 = codes "6x6"
footprint_word F8x5 = codes "8x5"
footprint_word F8x6 = codes "8x6"
footprint_word F8x8 = codes "8x8"
footprint_word F10x5 = codes "10x5"
footprint_word F10x6 = codes "10x6"
footprint_word F10x8 = codes "10x8"
footprint_word F10x10 = codes "10x10"
footprint_word F12x10 = codes "12x10"
footprint_word F12x12 = codes "12x12"
