use Rattle.listed_walk.proofs.GridLaws.{grids_more}
use Rattle.listed_walk.proofs.grids.grids_by_sides.Goals as goal

pub loop-k-preserved : goal.loop-k-preserved
loop-k-preserved g c =
    rw c.push.ensures.items
    (grids_more g.row.W g.row.H c.args.places.now c.loop-k.k c.loop-k.by_sides.items
    c.grid_of.result c.loop-k.invariant c.grid_of.ensures)
