use Rattle.std.proofs.Common.{◌≡◌, ◌<◌, ◌*◌, length, take, rules, sym, subst, ap, ◌∙◌}
use Rattle.std.specs.Option.{IfSome}
use Rattle.std.specs.List.{All}
use Rattle.candidates.specs.Pieces.{target_map}
use Rattle.candidates.proofs.PieceLaws.{length-grid_places, grid_within, weights_are}
use Rattle.candidates.proofs.assembly.weights_with.Goals as goal

pub weights_from-requires-clause-points : goal.weights_from-requires-clause-points
weights_from-requires-clause-points g c =
    let mode = c.args.mode.now in
    let count : length c.args.grid.now ≡ mode.across * mode.down = ap length c.requires.grid
    ∙ length-grid_places g.row.W g.row.H mode.across mode.down c.args.places.now in
    rw count c.requires.weights

pub weights_from-requires-clause-within : goal.weights_from-requires-clause-within
weights_from-requires-clause-within g c =
    let mode = c.args.mode.now in
    let full : length (take (length c.args.places.now) c.args.targets.now.first)
    ≡ g.row.W * g.row.H = search rules in
    subst (λ grid. All (λ place.
    IfSome place (λ p. p < length
    (take (length c.args.places.now) c.args.targets.now.first))) grid)
    (sym c.requires.grid)
    (grid_within g.row.W g.row.H mode.across mode.down _ c.args.places.now full)

pub returns : goal.returns
returns g c = λ component parts ends targets.
    let mode = c.args.mode.now in
    let count : length c.args.grid.now ≡ mode.across * mode.down = ap length c.requires.grid
    ∙ length-grid_places g.row.W g.row.H mode.across mode.down c.args.places.now in
    weights_are g.row.W g.row.H component mode parts ends c.args.places.now c.args.grid.now
    (take (length c.args.places.now) c.args.targets.now.first)
    (take (length c.args.places.now) c.args.targets.now.second) c.weights_from.result.items
    (length c.args.grid.now * mode.planes) c.requires.mode.some_plane c.requires.mode.two_planes
    c.requires.grid (ap (λ n. n * mode.planes) count)
    (targets.first ∙ ap (λ n. target_map component 0 parts ends c.args.places.now n)
    c.requires.places)
    (λ two. targets.second two
    ∙ ap (λ n. target_map component 1 parts ends c.args.places.now n) c.requires.places)
    c.weights_from.ensures
