-- Which bytes an audit finds no fault with.
use Rattle.std.specs.Prelude.{ℕ, List, Option, IsOkAnd}
use Rattle.astc_model.specs.Places.{Texel}
use Rattle.astc_model.specs.Weights.{Weighting}
use Rattle.astc_model.specs.Reading.{read}
use Rattle.astc_model.specs.Settled.{Settled}
use Rattle.astc_model.specs.Shown.{error_shown}
use Rattle.astc_model.specs.declared.flavour.Flavour.{Flavour}
use Rattle.astc_model.specs.declared.preset.Preset.{Preset}

-- the bytes are a block that is settled; other bytes are bad
unfoldable pub IsGood : (w h : ℕ) → Flavour → Weighting → Preset → List (Option Texel) → List ℕ
    → Type 0
IsGood w h flavour weights preset places bytes =
    IsOkAnd (read w h bytes) (λ block. Settled w h flavour weights preset places block
    (error_shown w h flavour weights bytes places))
