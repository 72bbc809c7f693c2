-- The query about a source.
use Rattle.std.specs.Prelude.{ℕ, ◌==◌, Bool, ◌&&◌, List, [], ◌∷◌, map, Option, None, Some, is_some, unwrap_or, slice_index_or}
use Rattle.std.specs.List.{find, range_with_len}
use Rattle.astc_model.specs.Places.{Texel}
use Rattle.astc_model.specs.Weights.{Weighting}
use Rattle.astc_model.specs.FootprintNames.{sides_of}
use Rattle.astc_model.specs.declared.footprint_name.FootprintName.{FootprintName}
use Rattle.astc_model.specs.declared.footprint_name.FootprintName.TheVariants.{F4x4, F5x4, F5x5, F6x5, F6x6, F8x5, F8x6, F8x8, F10x5, F10x6, F10x8, F10x10, F12x10, F12x12}
use Rattle.astc_model.specs.declared.flavour.Flavour.{Flavour}
use Rattle.astc_model.specs.declared.preset.Preset.{Preset}
use Rattle.adviser_pool.specs.declared.ask.Ask.{Ask}

-- the footprint of these sides; for others it says nothing
unfoldable pub name_of : ℕ → ℕ → FootprintName
name_of w h =
    unwrap_or (find (λ name. (sides_of name).0 == w && (sides_of name).1 == h)
    (F4x4 ∷ F5x4 ∷ F5x5 ∷ F6x5 ∷ F6x6 ∷ F8x5 ∷ F8x6 ∷ F8x8 ∷ F10x5 ∷ F10x6 ∷ F10x8 ∷ F10x10
    ∷ F12x10 ∷ F12x12 ∷ [])) F4x4

-- a place's texel, zeros outside
abbrev pub texel_or_zero : Option Texel → Texel
texel_or_zero None = 0 ∷ 0 ∷ 0 ∷ 0 ∷ []
texel_or_zero (Some texel) = texel

-- place p, which is outside past the end of the list
abbrev pub inside_at : List (Option Texel) → ℕ → Bool
inside_at places p = is_some (slice_index_or places p None)

-- the texel of place p, zeros outside and past the end of the list
abbrev pub texel_at : List (Option Texel) → ℕ → Texel
texel_at places p = texel_or_zero (slice_index_or places p None)

-- the 144 entries that a list of an ask has
unfoldable pub entries : {A : Type 0} → (ℕ → A) → List A
entries f = map f (range_with_len 0 144)

-- the query about the places of a source of w by h: 144 entries each; the entries past the source's
-- places are false and zero
unfoldable pub ask_about : ℕ → ℕ → Preset → Flavour → Weighting → List (Option Texel) → Ask
ask_about w h preset flavour weights places = record {
  name = name_of w h;
  preset = preset;
  flavour = flavour;
  weights = weights;
  inside = entries (inside_at places);
  texels = entries (texel_at places);
}
