-- The block and the source of a state.
use Rattle.std.specs.Prelude.{ℕ, ◌*◌, ◌/◌, List, Option, None, Some}
use Rattle.astc_model.specs.Places.{Texel}
use Rattle.astc_model.specs.Weights.{Weighting}
use Rattle.astc_model.specs.Modes.{decoded_mode}
use Rattle.astc_model.specs.Errors.{error}
use Rattle.astc_model.specs.declared.mode.Mode.{Mode}
use Rattle.astc_model.specs.declared.flavour.Flavour.{Flavour}
use Rattle.astc_model.specs.declared.block.Coded.{Coded as CodedFields}
use Rattle.astc_model.specs.declared.block.Block.{Block}
use Rattle.texel_error.specs.Counting.{count_on}
use Rattle.error_tables.specs.declared.tables.Tables.{Tables}
use Rattle.error_tables.specs.Reached.{is_touched_inside, is_part_inside, is_coloured_inside}

-- a coded block, and what its error is judged by: the flavour, the weight of each channel, and the
-- texels that it is to show
pub record StateView : Type 0 where
  pub flavour : Flavour
  pub weights : Weighting
  pub block : CodedFields
  pub places : List (Option Texel)

-- what tables stand for
abbrev pub view_of : Tables → StateView
view_of tables = record {
  flavour = tables.decoded.flavour;
  weights = tables.weights;
  block = tables.block;
  places = tables.places.now;
}

-- the error of a block against the state's source
abbrev pub error_in : (w h : ℕ) → StateView → Block → ℕ
error_in w h state block = error w h state.flavour state.weights block state.places

-- how many inside texels the point of weight integer i touches in a block mode, 0 without one
abbrev pub touched_under : (w h : ℕ) → Option Mode → ℕ → List (Option Texel) → ℕ
touched_under w h None i places = 0
touched_under w h (Some mode) i places =
    count_on (is_touched_inside w h mode (i / mode.planes) places) (w * h)

-- the number of inside texels of the point of a weight integer a factor over 0 in
abbrev pub touched_count : (w h : ℕ) → StateView → ℕ → ℕ
touched_count w h state i = touched_under w h (decoded_mode state.block.mode) i state.places

-- the number of inside texels of a part
abbrev pub part_count : (w h : ℕ) → StateView → ℕ → ℕ
part_count w h state part = count_on (is_part_inside w h state.block part state.places) (w * h)

-- the number of inside texels of the part of a colour integer
abbrev pub coloured_count : (w h : ℕ) → StateView → ℕ → ℕ
coloured_count w h state i = count_on (is_coloured_inside w h state.block i state.places) (w * h)
