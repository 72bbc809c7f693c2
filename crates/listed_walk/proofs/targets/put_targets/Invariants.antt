use Rattle.std.proofs.Common.{◌≡◌, ◌*◌, length}
use Rattle.listed_walk.specs.Targets.{AreTargetsTo}
use Rattle.listed_walk.proofs.targets.put_targets.Given as goal

abbrev pub invariant-loop-g : goal.invariant-loop-g
invariant-loop-g g l = record {
  count : length l.targets ≡ 160;
  are : AreTargetsTo l.layout.shape.now.plane l.plane l.layout.parts.now l.ends l.goal.places
      (4 * l.g) l.targets;
}
