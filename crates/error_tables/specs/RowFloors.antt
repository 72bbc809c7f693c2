-- Floors of the error of a part over all ends of which one is given.
use Rattle.std.specs.Prelude.{ℕ, ◌+◌, ◌*◌, ◌≤◌, ◌==◌, ◌||◌, Bool, if◌then◌else◌, List, take, slice_set}
use Rattle.astc_model.specs.Places.{channel}
use Rattle.astc_model.specs.Endpoints.{endpoint_integers, endpoint_colours}
use Rattle.moments.specs.Floors.{factor_of, more_of, less_of}
use Rattle.moments.specs.declared.Moments.{Moments}
use Rattle.error_tables.specs.Floors.{widening_of}
use Rattle.error_tables.specs.declared.floors.PartitionFloor.{PartitionFloor}
use Rattle.error_tables.specs.declared.tables.Tables.{Tables}

-- the moments with the ends exchanged
abbrev pub swapped : Moments → Moments
swapped m = record {
  first_squares = m.second_squares;
  products = m.products;
  second_squares = m.first_squares;
  first_targets = m.second_targets;
  second_targets = m.first_targets;
  target_squares = m.target_squares;
}

-- what is kept of a part, with the moments of each channel exchanged so
abbrev pub swapped_floor : PartitionFloor → PartitionFloor
swapped_floor floor = record floor {
  red = swapped floor.red;
  green = swapped floor.green;
  blue = swapped floor.blue;
  alpha = swapped floor.alpha;
}

-- the least form over all second ends, times the second squares, is plus_at less minus_at
abbrev pub plus_at : Moments → ℕ → ℕ
plus_at m first = m.second_squares * (first * first * m.first_squares + m.target_squares) + 2
    * (m.products * (first * m.second_targets))

abbrev pub minus_at : Moments → ℕ → ℕ
minus_at m first = m.second_squares * (2 * (first * m.first_targets)) + (m.products * first)
    * (m.products * first) + m.second_targets * m.second_targets

-- the least form over all second ends reaches this
abbrev pub IsEndFar : Moments → (first most : ℕ) → Type 0
IsEndFar m first most = minus_at m first + m.second_squares * most ≤ plus_at m first

-- the form of a channel at these ends is not below 0
abbrev pub IsForm : Tables → Moments → ℕ → List ℕ × List ℕ → Type 0
IsForm tables m c ends =
    less_of m (factor_of (widening_of tables.decoded.flavour c) * channel c ends.0)
    (factor_of (widening_of tables.decoded.flavour c) * channel c ends.1)
    ≤ more_of m (factor_of (widening_of tables.decoded.flavour c) * channel c ends.0)
    (factor_of (widening_of tables.decoded.flavour c) * channel c ends.1)

-- nor is that of any
pub record AreForms (tables : Tables) (floor : PartitionFloor)
    (ends : List ℕ × List ℕ) : Type 0 where
  pub red_form : IsForm tables floor.red 0 ends
  pub green_form : IsForm tables floor.green 1 ends
  pub blue_form : IsForm tables floor.blue 2 ends
  pub alpha_form : IsForm tables floor.alpha 3 ends

-- the ends of a part with both values of a pair replaced
abbrev pub pair_ends_of : (cem : ℕ) → List ℕ → (pair first second : ℕ) → List ℕ × List ℕ
pair_ends_of cem values pair first second =
    endpoint_colours cem (slice_set (slice_set (take (endpoint_integers cem) values)
    (2 * pair) first) (2 * pair + 1) second)

-- whether with one first value of a pair the first end, or the second, is the same for all second
-- values
abbrev pub has_rows : (mode pair : ℕ) → Bool
has_rows mode pair = if mode == 10 then pair == 2 else
    ((mode == 0) || ((mode == 4) || ((mode == 8) || (mode == 12))))
