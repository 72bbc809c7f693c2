use Rattle.listed_walk.proofs.LookLaws.{taken_sound, taken_looks}
use Rattle.listed_walk.proofs.best.look.Goals as goal

pub returns-clause-sound : goal.returns-clause-sound
returns-clause-sound g c =
    rw c.take.ensures (taken_sound g.row.W g.row.H c.args.goal.now c.args.coded c.args.best.now
    c.coded_error_under-under.result c.coded_error_under-under.ensures.exact
    c.requires.legal c.requires.sound)

pub returns-clause-looks : goal.returns-clause-looks
returns-clause-looks g c =
    rw c.take.ensures (taken_looks g.row.W g.row.H c.args.goal.now c.args.coded c.args.best.now
    c.coded_error_under-under.result c.coded_error_under-under.ensures.exact)
