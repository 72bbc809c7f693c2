use Rattle.listed_walk.specs.Origins.{AreOriginsTo}
use Rattle.listed_walk.proofs.origins.GridOrigins.of.Given as goal

abbrev pub invariant-loop-g : goal.invariant-loop-g
invariant-loop-g g l = AreOriginsTo g.row.W g.row.H l.around.columns l.around.rows l.grid l.g
    l.groups
