use Rattle.std.proofs.Common.{arith}
use Rattle.listed_walk.specs.Looks.{NoModeUnder}
use Rattle.listed_walk.proofs.LookLaws.{looks_none, over_zero}
use Rattle.listed_walk.proofs.walk.Walk.look_at_shape.Goals as goal

pub returns-then-best-eq0-clause-looks : goal.returns-then-best-eq0-clause-looks
returns-then-best-eq0-clause-looks g c =
    looks_none c.args.target (NoModeUnder g.row.W g.row.H c.args.self.now c.args.shape.now 2048)
    c.args.best.now
    (λ mode below. over_zero g.row.W g.row.H c.args.self.now c.args.shape.now mode
    c.args.best.now.error (omega (arith, c.if-best-eq0.true)))
