-- The axes of targets: the lines between the two endpoints of partitions.
use Rattle.std.specs.Prelude.{◌≡◌, ℕ, ◌+◌, ◌*◌, ◌/◌, ◌^◌, ◌<◌, ◌≤◌, max, min, Bool, if◌then◌else◌, List, [], length, slice_index_or, ℤ, pos, negsuc, ◌+ℤ◌, ◌*ℤ◌}
use Rattle.std.specs.List.{All}
use Rattle.std.specs.Int.RustNames.{unsigned_abs}
use Rattle.astc_model.specs.Places.{Texel, channel}
use Rattle.astc_model.specs.Candidates.{Ends, no_ends}
use Rattle.astc_model.specs.Targets.{difference, is_of_plane, den}
use Rattle.candidates.specs.declared.targets.Axis.{Axis}

-- the difference from the first endpoint to the second in channel c; 0 if the channel does not
-- count
abbrev pub rise : Bool → Texel → Texel → ℕ → ℤ
rise counts e0 e1 c = if counts then difference (channel c e1) (channel c e0) else pos 0

-- 2^46 divided by a length, rounded down, plus 1
abbrev pub inverse_of : ℕ → ℕ
inverse_of length = 2 ^ 46 / max length 1 + 1

-- the axis between two endpoints over the channels of a plane
unfoldable pub axis_of : (component plane : ℕ) → Ends → Axis
axis_of component plane ends = record {
  first = ends.0;
  red = rise (is_of_plane component plane 0) ends.0 ends.1 0;
  green = rise (is_of_plane component plane 1) ends.0 ends.1 1;
  blue = rise (is_of_plane component plane 2) ends.0 ends.1 2;
  alpha = rise (is_of_plane component plane 3) ends.0 ends.1 3;
  length = den component plane ends.0 ends.1;
  inverse = inverse_of (den component plane ends.0 ends.1);
}

-- the scalar product of a texel, relative to the first endpoint, with the axis
abbrev pub num_on : Axis → Texel → ℤ
num_on axis q =
    difference (channel 0 q) (channel 0 axis.first) *ℤ axis.red +ℤ difference (channel 1 q)
    (channel 1 axis.first) *ℤ axis.green
    +ℤ difference (channel 2 q) (channel 2 axis.first) *ℤ axis.blue +ℤ difference (channel 3 q)
    (channel 3 axis.first) *ℤ axis.alpha

-- the number clamped to 0 to `most`
abbrev pub within : ℤ → ℕ → ℕ
within (pos n) most = min n most
within (negsuc n) most = 0

-- the differences of the axis are those of bytes, and its inverse is that of its length
pub record IsAxis (axis : Axis) : Type 0 where
  pub red : unsigned_abs axis.red ≤ 255
  pub green : unsigned_abs axis.green ≤ 255
  pub blue : unsigned_abs axis.blue ≤ 255
  pub alpha : unsigned_abs axis.alpha ≤ 255
  pub short : axis.length ≤ 260100
  pub inverse_is : axis.inverse ≡ inverse_of axis.length

-- the axis for missing partitions
abbrev pub no_axis : Axis
no_axis = record {
  first = [];
  red = pos 0;
  green = pos 0;
  blue = pos 0;
  alpha = pos 0;
  length = 0;
  inverse = 0;
}

-- the list has the axes of the partitions with these endpoints
pub record AreAxes (component plane : ℕ) (ends : List Ends) (axes : List Axis) : Type 0 where
  pub count : length axes ≡ 4
  pub all : All IsAxis axes
  pub each : (part : ℕ) → part < length ends → slice_index_or axes part no_axis
      ≡ axis_of component plane (slice_index_or ends part no_ends)
