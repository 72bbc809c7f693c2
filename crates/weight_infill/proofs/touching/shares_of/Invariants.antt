use Rattle.std.proofs.Common.{◌≡◌, ◌<◌, ℕ, get_or, length}
use Rattle.std.specs.List.{All}
use Rattle.weight_infill.specs.Touched.{share_of, IsOfSixteenths}
use Rattle.weight_infill.specs.declared.touching.Share.TheVariants.{Apart}
use Rattle.weight_infill.proofs.touching.shares_of.Given as goal

abbrev pub invariant-loop-x : goal.invariant-loop-x
invariant-loop-x l = record {
  done : (k : ℕ) → k < l.x → get_or l.shares k Apart ≡ share_of l.side l.points l.point k;
  sixteenths : All IsOfSixteenths l.shares;
  long : length l.shares ≡ 12;
}
