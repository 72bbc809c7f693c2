use Rattle.listed_walk.specs.GridTables.{AreGridsTo}
use Rattle.listed_walk.proofs.grids.grids_by_sides.Given as goal

abbrev pub invariant-loop-k : goal.invariant-loop-k
invariant-loop-k g l = AreGridsTo g.row.W g.row.H l.places l.k l.by_sides.items
