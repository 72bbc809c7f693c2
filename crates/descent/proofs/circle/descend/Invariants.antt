use Rattle.std.proofs.Common.{◌+◌, ◌-◌, ◌*◌, ◌≤◌}
use Rattle.error_state.specs.Scans.{error_now}
use Rattle.descent.specs.Circle.{IsOfSame, AreStill}
use Rattle.descent.proofs.circle.descend.Given as goal

abbrev pub invariant-places : goal.invariant-places
invariant-places g l = record {
  same : IsOfSame l.initial.state l.state;
  falls : error_now g.row.W g.row.H l.state ≤ error_now g.row.W g.row.H l.initial.state;
  are_still : AreStill g.row.W g.row.H l.state l.all l.place l.still;
  few : l.all ≤ 128;
  rises : l.initial.steps ≤ l.steps;
}

-- a change may leave up to 127 places more to look at
abbrev pub decreases-places : goal.decreases-places
decreases-places g l = error_now g.row.W g.row.H l.state * 128 + (l.all - l.still)
