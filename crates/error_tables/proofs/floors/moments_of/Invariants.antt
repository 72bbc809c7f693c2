use Rattle.std.proofs.Common.{take}
use Rattle.moments.specs.Floors.{IsWithin}
use Rattle.error_tables.specs.Floors.{AreMomentsOf}
use Rattle.error_tables.proofs.floors.moments_of.Given as goal

abbrev pub invariant-loop-p : goal.invariant-loop-p
invariant-loop-p l = record {
  are : AreMomentsOf l.tables l.channel (take l.p-index l.reach) l.moments;
  within : IsWithin l.p-index l.moments;
}
