-- If a floor refuses a row of a pair, none of its changes is better.
use Rattle.std.proofs.Common.{◌/◌, ◌*◌, ◌+◌, ◌<◌, ◌≤◌, ℕ, get_or, refl, arith}
use Rattle.std.specs.Prelude.{sum_by}
use Rattle.astc_model.specs.Levels.{count_of}
use Rattle.astc_model.specs.ColourValues.{colour_value}
use Rattle.astc_model.specs.PairChanges.{PairChange, IsPairChange, with_pair}
use Rattle.quant_tables.proofs.ValueLaws.{colour_value-le}
use Rattle.texel_error.specs.Shown.{Ends}
use Rattle.error_tables.specs.State.{error_in}
use Rattle.error_tables.specs.Trials.{coloured}
use Rattle.error_tables.specs.Floors.{form_more, form_less, weight_sum}
use Rattle.error_tables.specs.RowFloors.{pair_ends_of, AreForms}
use Rattle.colour_bounds.specs.PartScans.{IsPartScan, state_of}
use Rattle.colour_bounds.proofs.PartScanLaws.{forms_of}
use Rattle.error_state.specs.Pairs.{OfFirst}
use Rattle.colour_bounds.specs.declared.part_scan.PartitionScan.{PartitionScan}
use Rattle.error_tables.proofs.ChangedLaws.{colour_range-is}
use Rattle.error_tables.proofs.FloorLaws.{hopeless}
use Rattle.error_tables.proofs.PairTrial.{pair_result, pair_ends-is, same_change}

module _ (w h : ℕ) (scan : PartitionScan) (is : IsPartScan w h scan) (pair first : ℕ)
    (within : pair < get_or scan.tables.now.block.cems scan.part 0 / 4 + 1)
    (range : first < count_of scan.tables.now.level)
    (over : (u : ℕ) → u ≤ 255 → AreForms scan.tables.now scan.floor
    (pair_ends_of scan.cem scan.values pair (colour_value scan.tables.now.level first) u)
    → form_less scan.tables.now scan.floor
    (pair_ends_of scan.cem scan.values pair (colour_value scan.tables.now.level first) u)
    + scan.most
    ≤ form_more scan.tables.now scan.floor
    (pair_ends_of scan.cem scan.values pair (colour_value scan.tables.now.level first) u)) where
  one : (second : ℕ) → second < count_of scan.tables.now.level
      → scan.tables.now.total ≤ error_in w h (state_of scan)
      (with_pair scan.tables.now.block
      (record { part = scan.part; pair = pair; first = first; second = second }))
  one second below =
      let ends : Ends = pair_ends_of scan.cem scan.values pair
      (colour_value scan.tables.now.level first) (colour_value scan.tables.now.level second) in
      let far = over (colour_value scan.tables.now.level second)
      (colour_value-le scan.tables.now.level second below)
      (forms_of scan.tables.now scan.reach.now scan.floor ends is.floored) in
      let bar : scan.floor.taken ≤ sum_by (coloured scan.tables.now ends) scan.reach.now =
      hopeless scan.tables.now ends scan.reach.now scan.floor scan.most scan.floor.taken
      (weight_sum scan.tables.now * scan.floor.count) is.floored refl is.enough far
      in
      let exchange =
      pair_result w h scan.tables.now is.kept scan.part pair is.own within first second range below
      scan.reach.now ends _ _ is.reached
      (pair_ends-is scan.tables.now.block scan.tables.now.level scan.part pair first second scan.cem
      _ is.mode_is (rw is.mode_is within) is.values_are) is.floored.taken refl
      in
      omega (arith, bar, exchange)

  pub row_finds : (change : PairChange) → IsPairChange scan.tables.now.block change
      → OfFirst scan.part pair first change
      → scan.tables.now.total ≤ error_in w h (state_of scan)
      (with_pair scan.tables.now.block change)
  row_finds change is_change own =
      same_change scan.part pair first change.second change own.0 own.1 own.2 refl
      (λ c. scan.tables.now.total ≤ error_in w h (state_of scan)
      (with_pair scan.tables.now.block c))
      (one change.second (rw (colour_range-is w h _ _ _ is.kept.is_shaped) at is_change.second))
