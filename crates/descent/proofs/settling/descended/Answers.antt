use Rattle.std.proofs.Common.{◌≡◌, ◌∙◌, ap}
use Rattle.error_tables.specs.State.{StateView}
use Rattle.descent.specs.Circle.{Descends}
use Rattle.descent.proofs.ChangeLaws.{none_of_kinds}
use Rattle.descent.proofs.settling.descended.Goals as goal

pub returns-clause-least : goal.returns-clause-least
returns-clause-least g c =
    let state : StateView = c.descend.new.state in
    let is : Descends g.row.W g.row.H c.start-state.result state = c.descend.ensures.descends in
    let flavour : state.flavour ≡ c.args.goal.now.flavour = is.same.flavour
    ∙ ap (λ s. s.flavour) c.start-state.ensures ∙ c.flavour.ensures in
    let weights : state.weights ≡ c.args.goal.now.weights = is.same.weights
    ∙ ap (λ s. s.weights) c.start-state.ensures ∙ c.weights.ensures in
    let places : state.places ≡ c.args.goal.now.places = is.same.places
    ∙ ap (λ s. s.places) c.start-state.ensures ∙ c.source.ensures in
    rw (c.into_block.ensures.same, ← flavour, ← weights, ← places)
    (none_of_kinds g.row.W g.row.H state.flavour state.weights state.places state.block is.colours
    is.weights)
