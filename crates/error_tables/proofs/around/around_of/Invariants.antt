use Rattle.error_tables.specs.Arounds.{IsCorner}
use Rattle.error_tables.proofs.around.around_of.Given as goal

abbrev pub invariant-loop-p : goal.invariant-loop-p
invariant-loop-p g l = record {
  first_is : IsCorner g.row.W g.row.H l.mode l.places 0 l.p l.first.points l.first.factors;
  second_is : IsCorner g.row.W g.row.H l.mode l.places 1 l.p l.second.points l.second.factors;
  third_is : IsCorner g.row.W g.row.H l.mode l.places 2 l.p l.third.points l.third.factors;
  fourth_is : IsCorner g.row.W g.row.H l.mode l.places 3 l.p l.fourth.points l.fourth.factors;
}
