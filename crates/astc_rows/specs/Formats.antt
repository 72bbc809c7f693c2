-- Formats and presets by their numbers.
use Rattle.std.specs.Prelude.{ℕ, ◌==◌, if◌then◌else◌, List, [], ◌∷◌, Option, None, Some, find}
use Rattle.astc_model.specs.FootprintNames.{gl_of}
use Rattle.astc_model.specs.declared.flavour.Flavour.{Flavour}
use Rattle.astc_model.specs.declared.footprint_name.FootprintName.{FootprintName}
use Rattle.astc_model.specs.declared.flavour.Flavour.TheVariants.{Linear, Srgb}
use Rattle.astc_model.specs.declared.footprint_name.FootprintName.TheVariants.{F4x4, F5x4, F5x5, F6x5, F6x6, F8x5, F8x6, F8x8, F10x5, F10x6, F10x8, F10x10, F12x10, F12x12}
use Rattle.astc_model.specs.declared.preset.Preset.{Preset}
use Rattle.astc_model.specs.declared.preset.Preset.TheVariants.{Flat, Quick, Medium, Thorough, Pairs}

-- all footprints in both flavours
abbrev pub formats : List (FootprintName × Flavour)
formats =
    (F4x4, Linear) ∷ (F5x4, Linear) ∷ (F5x5, Linear) ∷ (F6x5, Linear) ∷ (F6x6, Linear)
    ∷ (F8x5, Linear) ∷ (F8x6, Linear)
    ∷ (F8x8, Linear) ∷ (F10x5, Linear) ∷ (F10x6, Linear) ∷ (F10x8, Linear) ∷ (F10x10, Linear)
    ∷ (F12x10, Linear) ∷ (F12x12, Linear)
    ∷ (F4x4, Srgb) ∷ (F5x4, Srgb) ∷ (F5x5, Srgb) ∷ (F6x5, Srgb) ∷ (F6x6, Srgb) ∷ (F8x5, Srgb)
    ∷ (F8x6, Srgb)
    ∷ (F8x8, Srgb) ∷ (F10x5, Srgb) ∷ (F10x6, Srgb) ∷ (F10x8, Srgb) ∷ (F10x10, Srgb) ∷ (F12x10, Srgb)
    ∷ (F12x12, Srgb) ∷ []

-- the footprint and the flavour whose number this is
unfoldable pub format_of : ℕ → Option (FootprintName × Flavour)
format_of n = find (λ format. gl_of format.0 format.1 == n) formats

-- the preset with this number
abbrev pub preset_of : ℕ → Option Preset
preset_of n =
    if n == 0 then Some Flat
    else if n == 1 then Some Quick
    else if n == 2 then Some Medium
    else if n == 3 then Some Thorough
    else if n == 4 then Some Pairs
    else None
