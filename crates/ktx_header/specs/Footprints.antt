-- All footprints.
use Rattle.std.specs.Prelude.{List, [], ◌∷◌}
use Rattle.astc_model.specs.declared.footprint_name.FootprintName.{FootprintName}
use Rattle.astc_model.specs.declared.footprint_name.FootprintName.TheVariants.{F4x4, F5x4, F5x5, F6x5, F6x6, F8x5, F8x6, F8x8, F10x5, F10x6, F10x8, F10x10, F12x10, F12x12}

-- the 14 two-dimensional ones, in the order of their numbers in OpenGL
abbrev pub footprint_names : List FootprintName
footprint_names = F4x4 ∷ F5x4 ∷ F5x5 ∷ F6x5 ∷ F6x6 ∷ F8x5 ∷ F8x6 ∷ F8x8 ∷ F10x5 ∷ F10x6 ∷ F10x8
    ∷ F10x10 ∷ F12x10 ∷ F12x12 ∷ []
