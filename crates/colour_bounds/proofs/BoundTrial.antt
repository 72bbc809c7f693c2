-- If the form with a value of a colour integer is far, the value does not reduce the error.
use Rattle.std.proofs.Common.{◌≡◌, ℕ, ◌+◌, ◌-◌, ◌*◌, ◌<◌, ◌≤◌, refl, arith}
use Rattle.std.specs.Prelude.{sum_by}
use Rattle.astc_model.specs.CodedTexels.{part_colours}
use Rattle.astc_model.specs.ColourValues.{colour_value}
use Rattle.astc_model.specs.Endpoints.{endpoint_integers}
use Rattle.astc_model.specs.Levels.{count_of}
use Rattle.astc_model.specs.declared.block.Block.TheVariants.{Coded}
use Rattle.texel_error.specs.Shown.{Ends}
use Rattle.error_tables.specs.Changed.{with_colour, HasColour}
use Rattle.error_tables.specs.Floors.{form_more, form_less, weight_sum}
use Rattle.error_tables.specs.State.{error_in}
use Rattle.error_tables.specs.Trials.{coloured}
use Rattle.error_tables.proofs.ColourTrial.{colour_result}
use Rattle.error_tables.proofs.FloorLaws.{hopeless}
use Rattle.moments.specs.Floors.{IsMost}
use Rattle.colour_bounds.specs.PartScans.{integer_of}
use Rattle.colour_bounds.specs.Bounds.{ends_of}
use Rattle.colour_bounds.specs.PartScans.{IsPartScan, state_of}
use Rattle.colour_bounds.specs.declared.part_scan.PartitionScan.{PartitionScan}
use Rattle.colour_bounds.proofs.PartScanLaws.{has_integer, colour_ends-is}

module _ (w h : ℕ) (scan : PartitionScan) (place value : ℕ) (is : IsPartScan w h scan)
    (within : place < endpoint_integers scan.cem) (range : value < count_of scan.tables.now.level)
  where
    abbrev ends : Ends
    ends = ends_of scan.cem scan.values place (colour_value scan.tables.now.level value)

    abbrev error : ℕ
    error = error_in w h (state_of scan)
        (Coded (with_colour scan.tables.now.block (integer_of scan place) value))

    -- the error of the block with the value, from the errors of the partition's places
    pub exchange : error + scan.floor.taken ≡ scan.tables.now.total + sum_by
        (coloured scan.tables.now ends) scan.reach.now
    exchange =
        let has : HasColour scan.tables.now.block scan.part (integer_of scan place) =
        has_integer w h scan place is within in
        let ends_are : ends ≡ part_colours
        (with_colour scan.tables.now.block (integer_of scan place) value) scan.tables.now.level
        scan.part =
        colour_ends-is scan.tables.now.block scan.tables.now.level scan.part place value scan.cem _
        is.mode_is within is.values_are
        in
        colour_result w h scan.tables.now is.kept (integer_of scan place) value scan.part has range
        scan.reach.now ends _ _ is.reached ends_are is.floored.taken refl

    pub far_value : (limit bar most : ℕ) → bar ≡ limit + scan.floor.taken - scan.tables.now.total
        → IsMost most bar (weight_sum scan.tables.now * scan.floor.count)
        → form_less scan.tables.now scan.floor ends + most ≤ form_more scan.tables.now scan.floor
        ends
        → limit ≤ error
    far_value limit bar most bar_is enough far =
        let over : bar ≤ sum_by (coloured scan.tables.now ends) scan.reach.now =
        hopeless scan.tables.now ends scan.reach.now scan.floor most bar
        (weight_sum scan.tables.now * scan.floor.count) is.floored refl enough far
        in
        omega (arith, exchange, over, bar_is)
