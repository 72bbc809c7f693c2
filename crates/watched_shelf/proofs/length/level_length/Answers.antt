use Rattle.watched_shelf.proofs.LengthLemmas.{level_length-faces, level_length-array}
use Rattle.watched_shelf.proofs.length.level_length.Goals as goal

pub returns-then-shape-eq0-clause-exact : goal.returns-then-shape-eq0-clause-exact
returns-then-shape-eq0-clause-exact c =
    rw (c.from.ensures, c.from-size.ensures, c.level_size.ensures, c.shape-shape.ensures.same)
    (level_length-faces c.args.layout.now c.args.level
    (rw c.shape-shape.ensures.same at c.if-shape-eq0.true))

pub returns-else-shape-eq0-clause-exact : goal.returns-else-shape-eq0-clause-exact
returns-else-shape-eq0-clause-exact c =
    rw (c.from-size.ensures, c.level_size.ensures, c.shape-shape.ensures.same)
    (level_length-array c.args.layout.now c.args.level
    (rw c.shape-shape.ensures.same at c.if-shape-eq0.false))
