-- Verdicts on 16 bytes as a block for a source.
use Rattle.std.specs.Prelude.{◌≡◌, ◌≤◌, ◌↔◌, ℕ, List, Option, IsOk, IsOkAnd, IsTrue}
use Rattle.astc_model.specs.Places.{Texel}
use Rattle.astc_model.specs.Weights.{Weighting}
use Rattle.astc_model.specs.Reading.{read}
use Rattle.astc_model.specs.Errors.{error}
use Rattle.astc_model.specs.Changes.{Changed}
use Rattle.astc_model.specs.Settled.{NoneUnder, listed}
use Rattle.astc_model.specs.Shown.{error_shown}
use Rattle.astc_model.specs.declared.flavour.Flavour.{Flavour}
use Rattle.astc_model.specs.declared.preset.Preset.{Preset}
use Rattle.astc_model.specs.declared.block.Block.{Block}
use Rattle.encoder.specs.declared.verdict.Verdict.{Verdict}

-- the bytes are a block, and no listed block has an error under theirs
abbrev pub MeetsCandidates : (w h : ℕ) → Flavour → Weighting → Preset → List (Option Texel) → List ℕ
    → Type 0
MeetsCandidates w h flavour weights preset places bytes =
    IsOkAnd (read w h bytes) (λ block. NoneUnder w h flavour weights places
    (error_shown w h flavour weights bytes places) (listed w h preset places))

-- the bytes are a block, and no change of one of its integers gives an error under theirs
abbrev pub IsLeast : (w h : ℕ) → Flavour → Weighting → List (Option Texel) → List ℕ → Type 0
IsLeast w h flavour weights places bytes =
    IsOkAnd (read w h bytes) (λ block. (changed : Block) → Changed block changed
    → error_shown w h flavour weights bytes places ≤ error w h flavour weights changed
    places)

-- each truth of the verdict is true exactly if it is so
pub record IsVerdict (w h : ℕ) (flavour : Flavour) (weights : Weighting) (preset : Preset)
    (places : List (Option Texel)) (bytes : List ℕ) (verdict : Verdict) : Type 0 where
  pub legal : IsTrue verdict.legal ↔ IsOk (read w h bytes)
  pub error : verdict.error ≡ error_shown w h flavour weights bytes places
  pub candidates_met : IsTrue verdict.candidates_met ↔ MeetsCandidates w h flavour weights preset
      places bytes
  pub least : IsTrue verdict.least ↔ IsLeast w h flavour weights places bytes
