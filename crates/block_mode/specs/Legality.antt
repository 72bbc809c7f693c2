-- The legality of a block as a test, in the order in which the code makes it.
use Rattle.std.specs.Prelude.{ℕ, ◌+◌, ◌/◌, Bool, true, false, ◌&&◌, ◌==◌, nat_lt, nat_le, if◌then◌else◌, List, length, Option, None, Some, Result, Ok, Err, slice_index}
use Rattle.std.specs.List.{list_all}
use Rattle.astc_model.specs.declared.level.Level.{Level}
use Rattle.astc_model.specs.Levels.{count_of}
use Rattle.astc_model.specs.Sums.{all_below}
use Rattle.astc_model.specs.declared.mode.Mode.{Mode}
use Rattle.astc_model.specs.declared.block.BlockFault.{BlockFault}
use Rattle.astc_model.specs.declared.block.Coded.{Coded as CodedFields}
use Rattle.astc_model.specs.Modes.{decoded_mode}
use Rattle.astc_model.specs.Shapes.{weight_count, grid_fault, colour_count, colour_shape}
use Rattle.astc_model.specs.Blocks.{is_extent_in_order}

-- whether the coordinates of a void extent fit their fields and are in order
unfoldable pub is_extent_legal : List ℕ → Bool
is_extent_legal extent = list_all (λ coordinate. nat_lt coordinate 8192) extent
    && is_extent_in_order extent

-- whether each field is in its range
unfoldable pub is_in_range : CodedFields → Bool
is_in_range coded =
    nat_lt coded.mode 2048 && nat_le 1 coded.parts && nat_le coded.parts 4 && nat_lt coded.seed 1024
    && nat_lt coded.selector 4
    && list_all (λ cem. nat_lt cem 16) coded.cems

-- whether an endpoint mode can be encoded with the selector, when that of partition 0 is `first`
unfoldable pub is_selected : ℕ → ℕ → ℕ → Bool
is_selected selector first cem = if selector == 0 then cem == first else nat_le selector
    (cem / 4 + 1) && nat_le (cem / 4) selector

-- whether the endpoint mode of a partition can be encoded; it must be 0 for a missing partition
unfoldable pub is_mode_legal : CodedFields → ℕ → Bool
is_mode_legal coded part =
    if nat_lt part coded.parts then is_selected coded.selector (slice_index coded.cems 0)
    (slice_index coded.cems part)
    else slice_index coded.cems part == 0

-- whether the partition index and the selector are 0 if there is one partition
unfoldable pub is_single_legal : CodedFields → Bool
is_single_legal coded = if coded.parts == 1 then (coded.seed == 0)
    && (coded.selector == 0) else true

-- whether the fields that the block does not store are 0, and its endpoint modes can be encoded
unfoldable pub are_spares_fixed : CodedFields → Bool
are_spares_fixed coded = is_single_legal coded && all_below (is_mode_legal coded) 4

-- whether the component is 1 to 4 for two planes, and 0 for one plane
unfoldable pub is_plane_of : Mode → ℕ → Bool
is_plane_of mode plane = if mode.planes == 2 then nat_le 1 plane && nat_le plane 4 else plane == 0

-- whether there are `count` integers, all within the range of the level
unfoldable pub are_integers_of : Level → ℕ → List ℕ → Bool
are_integers_of level count integers = (length integers == count)
    && list_all (λ integer. nat_lt integer (count_of level)) integers

-- whether the integers fit the shape, from the level of the colour integers or the fault of the
-- shape
unfoldable pub are_values_legal : CodedFields → Mode → Result Level BlockFault → Bool
are_values_legal coded mode (Err fault) = false
are_values_legal coded mode (Ok level) =
    are_integers_of level (colour_count coded.parts coded.cems) coded.colours.items
    && are_integers_of mode.level (weight_count mode) coded.weights.items

-- whether the block is legal, from its mode and the fault of its grid
unfoldable pub is_legal_on_grid : CodedFields → Mode → Option BlockFault → Bool
is_legal_on_grid coded mode (Some fault) = false
is_legal_on_grid coded mode None =
    are_values_legal coded mode (colour_shape mode coded.parts coded.selector coded.cems)

-- whether the block is legal, from its mode
unfoldable pub is_legal_under : ℕ → ℕ → CodedFields → Option Mode → Bool
is_legal_under w h coded None = false
is_legal_under w h coded (Some mode) = is_plane_of mode coded.plane && is_legal_on_grid coded mode
    (grid_fault w h mode)

-- whether the block is legal for footprints of w by h
unfoldable pub is_legal_coded : ℕ → ℕ → CodedFields → Bool
is_legal_coded w h coded = is_in_range coded && are_spares_fixed coded
    && is_legal_under w h coded (decoded_mode coded.mode)
