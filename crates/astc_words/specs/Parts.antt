-- The places of parts.
use Rattle.std.specs.Prelude.{ℕ, nat_lt, nat_le, ◌&&◌, if◌then◌else◌, Option, Some, None}

-- a place, from 0, and the number of parts
pub record PlaceView : Type 0 where
  pub place : ℕ
  pub parts : ℕ

-- the place with this number among this number of parts, if there is one
abbrev pub part_place_of : ℕ → ℕ → Option PlaceView
part_place_of place parts = if nat_lt place parts && nat_le parts 65536
    then Some (record { place = place; parts = parts }) else None
