use Rattle.std.proofs.Common.{◌≡◌, ◌++◌, take}
use Rattle.unpacking.specs.Bands.{AreDecoded, faults_of}
use Rattle.unpacking.proofs.bands.decode_row.Given as goal

abbrev pub invariant-loop-k : goal.invariant-loop-k
invariant-loop-k g l = record {
  decoded : AreDecoded g.row.W g.row.H l.flavour l.blocks l.k l.decoded.items;
  faults : l.faults.items ≡ l.initial.faults.items ++ faults_of g.row.W g.row.H (take l.k l.blocks);
}
