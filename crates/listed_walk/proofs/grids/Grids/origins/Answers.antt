use Rattle.std.proofs.Common.{◌≡◌, ◌<◌, get_or, length}
use Rattle.listed_walk.specs.Grids.{AreOriginsOf}
use Rattle.listed_walk.proofs.GridLaws.{origins_are}
use Rattle.listed_walk.proofs.OriginLaws.{if_some}
use Rattle.listed_walk.proofs.grids.Grids.origins.Goals as goal

pub returns : goal.returns
returns c =
    let mode = c.args.mode.now in
    let grids = c.args.self.now.by_sides.now in
    let table = c.args.self.now.origins.now in
    let place = c.grid_place.result in
    if_some (λ found. (place < length table) × (found.now ≡ get_or table place found.now))
    (λ found. AreOriginsOf mode grids table found.now)
    (λ found is w h places none are.
    origins_are w h mode places grids table found.now place c.requires none are
    c.grid_place.ensures.exact is.0 is.1)
    c.kept_at.result c.kept_at.ensures
