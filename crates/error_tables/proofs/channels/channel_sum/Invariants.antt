use Rattle.std.proofs.Common.{◌≡◌, ◌*◌, ◌≤◌, take}
use Rattle.std.specs.Prelude.{sum_by}
use Rattle.error_tables.specs.Floors.{channel_part}
use Rattle.error_tables.proofs.channels.channel_sum.Given as goal

abbrev pub invariant-loop-p : goal.invariant-loop-p
invariant-loop-p l = record {
  sum : l.error ≡ sum_by (channel_part l.tables l.channel l.first l.second)
      (take l.p-index l.reach);
  few : l.error ≤ 65025 * l.p-index;
}
