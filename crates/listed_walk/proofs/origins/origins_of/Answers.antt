use Rattle.std.proofs.Common.{◌≡◌, length, rules}
use Rattle.listed_walk.proofs.OriginLaws.{origins_from}
use Rattle.listed_walk.proofs.origins.origins_of.Goals as goal

pub returns-then-p : goal.returns-then-p
returns-then-p g c =
    let around = c.args.around.now in
    let whole : length c.origins_around.result ≡ 4 = search rules in
    origins_from g.row.W g.row.H around.columns around.rows c.args.grid.now c.args.p c.at.result
    c.origins_around.result c.if-p.true c.requires.points c.requires.within c.at.ensures.points
    c.at.ensures.in_grid c.at.ensures.small c.at.ensures.total c.origins_around.ensures whole
