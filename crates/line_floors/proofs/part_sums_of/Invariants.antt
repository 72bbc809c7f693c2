use Rattle.std.proofs.Common.{◌≡◌, ℕ, ◌<◌, length}
use Rattle.std.specs.Prelude.{slice_index_or}
use Rattle.std.specs.List.{All}
use Rattle.line_floors.specs.Sums.{no_part, sums_below, AreSumsWithin}
use Rattle.line_floors.proofs.part_sums_of.Given as goal

abbrev pub invariant-loop-p : goal.invariant-loop-p
invariant-loop-p g l = record {
  all : length l.sums ≡ 4;
  within : All (AreSumsWithin l.p) l.sums;
  are : (part : ℕ) → part < 4 → slice_index_or l.sums part no_part
      ≡ sums_below l.flavour l.places l.parts part l.p;
}
