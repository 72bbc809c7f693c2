-- The patterns of the places of a block that are inside.
use Rattle.std.specs.Prelude.{◌≡◌, ℕ, ◌*◌, ◌/◌, ◌%◌, ◌<◌, ◌&&◌, Bool, nat_lt, List, Option, length}
use Rattle.astc_model.specs.Places.{Texel}
use Rattle.texel_error.specs.Counting.{is_inside}

-- whether place p of a block of w columns is in the first columns and rows
abbrev pub is_of_first : (w columns rows p : ℕ) → Bool
is_of_first w columns rows p = nat_lt (p % w) columns && nat_lt (p / w) rows

-- exactly the places in the first columns and rows are inside
pub record IsInside (w h columns rows : ℕ) (places : List (Option Texel)) : Type 0 where
  pub all : length places ≡ w * h
  pub each : (p : ℕ) → p < w * h → is_inside places p ≡ is_of_first w columns rows p
