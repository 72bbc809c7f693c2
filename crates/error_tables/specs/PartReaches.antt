-- The kept lists of the places of parts.
use Rattle.std.specs.Prelude.{◌≡◌, ℕ, ◌<◌, List, [], Option, length, slice_index_or}
use Rattle.arrayvec.specs.ArrayVec.{ArrayVec}
use Rattle.astc_model.specs.Places.{Texel}
use Rattle.astc_model.specs.declared.block.Coded.{Coded as CodedFields}
use Rattle.error_tables.specs.Reached.{IsPartReach}

-- the list of a part
abbrev pub reach_at : List (ArrayVec ℕ) → ℕ → List ℕ
reach_at reaches part = (slice_index_or reaches part (record { items = [] })).items

-- each part has its list
pub record ArePartReaches (w h : ℕ) (block : CodedFields) (places : List (Option Texel))
    (reaches : List (ArrayVec ℕ)) : Type 0 where
  pub all : length reaches ≡ 4
  pub each : (part : ℕ) → part < 4 → IsPartReach w h block part places (reach_at reaches part)
