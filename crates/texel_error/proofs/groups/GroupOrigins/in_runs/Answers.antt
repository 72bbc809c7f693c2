use Rattle.std.proofs.Common.{◌*◌, refl}
use Rattle.texel_error.proofs.RunLaws.{near_shares}
use Rattle.texel_error.proofs.groups.GroupOrigins.in_runs.Goals as goal

pub returns-then-has-clause-same : goal.returns-then-has-clause-same
returns-then-has-clause-same g c =
    let near = c.near-near.ensures in
    let has = c.if-has.ensures in
    near_shares (g.row.W * g.row.H) c.near-near.result c.args.places c.args.factors
    c.requires.factors near.factors near.first near.second near.near (has.first refl)
    (has.second refl) (has.each refl)
