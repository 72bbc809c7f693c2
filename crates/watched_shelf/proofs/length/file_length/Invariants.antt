use Rattle.std.proofs.Common.{◌≡◌, ◌+◌, ◌*◌, ◌^◌, ◌≤◌}
use Rattle.astc_model.specs.Sums.{sum_to}
use Rattle.watched_shelf.specs.Lengths.{level_length}
use Rattle.watched_shelf.proofs.length.file_length.Given as goal

abbrev pub invariant-loop-level : goal.invariant-loop-level
invariant-loop-level l = record {
  exact : l.bytes ≡ 64 + l.fn.key_bytes + sum_to (level_length l.layout) l.level;
  most : l.bytes ≤ 2 ^ 40 + l.level * 2 ^ 40;
}
