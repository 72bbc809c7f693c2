use Rattle.std.proofs.Common.{◌≡◌, ◌*◌, length}
use Rattle.images.specs.Pictures.{bytes_of}
use Rattle.images.specs.Chains.{halved_rows}
use Rattle.images.proofs.chains.halved.Given as goal

-- the rows so far
abbrev pub invariant-loop-row : goal.invariant-loop-row
invariant-loop-row l = record {
  rows : l.texels.items ≡ bytes_of (halved_rows l.images l.row);
  size : length l.texels.items ≡ 4 * (l.width * l.row);
}
