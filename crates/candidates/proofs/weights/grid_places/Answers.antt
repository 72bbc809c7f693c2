use Rattle.std.proofs.Common.{◌<◌, ◌*◌, refl, sym, subst}
use Rattle.std.specs.Option.{IfSome}
use Rattle.std.specs.List.{All}
use Rattle.candidates.proofs.NearestLaws.{grid_takes_nearest}
use Rattle.candidates.proofs.PieceLaws.{grid_within}
use Rattle.candidates.proofs.weights.grid_places.Goals as goal

pub returns-clause-within : goal.returns-clause-within
returns-clause-within g c =
    subst (λ grid. All (λ place. IfSome place (λ p. p < g.row.W * g.row.H)) grid)
    (sym c.grid_of.ensures)
    (grid_within g.row.W g.row.H c.args.n c.args.m _ c.args.places.now refl)

pub returns-clause-nearest : goal.returns-clause-nearest
returns-clause-nearest g c = grid_takes_nearest g.row.W g.row.H c.args.n c.args.m c.args.places.now
    c.grid_of.result.items c.grid_of.ensures c.requires.places
