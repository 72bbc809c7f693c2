use Rattle.std.proofs.Common.{◌≡◌}
use Rattle.colour_bounds.specs.PartScans.{IsPartScan}
use Rattle.error_state.specs.KeptParts.{mode_of}
use Rattle.error_state.proofs.KeptLaws.{floor_moves}
use Rattle.error_state.proofs.kept_parts.kept_part.Goals as goal

pub returns : goal.returns
returns g c =
    let is : IsPartScan g.row.W g.row.H c.scan_of-scan.result = c.scan_of-scan.ensures.scan in
    let mode : c.scan_of-scan.result.cem ≡ mode_of c.args.tables.now c.args.part =
    rw (c.scan_of-scan.ensures.tables, c.scan_of-scan.ensures.part) at is.mode_is in
    record {
      mode_fits = rw mode at is.mode_fits;
      mode_ldr = rw mode at is.mode_ldr;
      values_are = rw (c.scan_of-scan.ensures.tables, c.scan_of-scan.ensures.part, mode)
          at is.values_are;
      eight_values = is.eight_values;
      floored = λ reach own.
          floor_moves g.row.W g.row.H c.args.tables.now c.args.part c.scan_of-scan.result.reach.now
          reach c.scan_of-scan.result.floor
          (rw (c.scan_of-scan.ensures.tables, c.scan_of-scan.ensures.part) at is.reached) own
          (rw c.scan_of-scan.ensures.tables at is.floored);
      small_floor = is.small_floor;
      enough = rw c.scan_of-scan.ensures.tables at is.enough;
      most_fits = is.most_fits;
    }
