-- The data of a colour integer while its values are tried.
use Rattle.std.specs.Prelude.{◌≡◌, ◌+◌, ◌-◌, ◌*◌, ◌≤◌, ◌^◌}
use Rattle.astc_model.specs.Limits.{most_block_error}
use Rattle.moments.specs.Floors.{IsMost}
use Rattle.error_tables.specs.Floors.{weight_sum}
use Rattle.error_state.specs.Scans.{least_of}
use Rattle.colour_bounds.specs.declared.part_scan.PartitionScan.{PartitionScan}
use Rattle.error_state.specs.declared.colour_scan.Limit.{Limit}

-- the bar and the form are those of the best value's error, or of the block's
pub record IsLimit (scan : PartitionScan) (limit : Limit) : Type 0 where
  pub bar_is : limit.bar ≡ least_of scan.tables.now.total limit.best + scan.floor.taken
      - scan.tables.now.total
  pub bar_fits : limit.bar ≤ most_block_error
  pub enough : IsMost limit.most limit.bar (weight_sum scan.tables.now * scan.floor.count)
  pub most_fits : limit.most ≤ 2 ^ 61
