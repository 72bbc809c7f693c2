-- A coded block with one integer at another value, and the part of a colour integer.
use Rattle.std.specs.Prelude.{ℕ, ◌+◌, ◌<◌, ◌≤◌, length, slice_index, slice_set}
use Rattle.astc_model.specs.Shapes.{colour_count}
use Rattle.astc_model.specs.Endpoints.{endpoint_integers}
use Rattle.astc_model.specs.declared.block.Coded.{Coded as CodedFields}

-- the block with this value as weight integer i
abbrev pub with_weight : CodedFields → ℕ → ℕ → CodedFields
with_weight coded i value =
    record coded { weights = record { items = slice_set coded.weights.items i value } }

-- the block with this value as colour integer i, counted over all parts
abbrev pub with_colour : CodedFields → ℕ → ℕ → CodedFields
with_colour coded i value =
    record coded { colours = record { items = slice_set coded.colours.items i value } }

-- the part, one of the block's, has the colour integer i
pub record HasColour (coded : CodedFields) (part i : ℕ) : Type 0 where
  pub own : part < coded.parts
  pub one : part < length coded.cems
  pub from : colour_count part coded.cems ≤ i
  pub below : i < colour_count part coded.cems + endpoint_integers (slice_index coded.cems part)
