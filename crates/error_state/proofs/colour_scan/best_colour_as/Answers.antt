use Rattle.std.proofs.Common.{sym, ◌∙◌}
use Rattle.error_state.proofs.colour_scan.best_colour_as.Goals as goal

pub returns-in-Some-clause-least : goal.returns-in-Some-clause-least
returns-in-Some-clause-least g c = λ value range other.
    c.best_by_walk.ensures.least value range (λ same. other (same ∙ sym c.requires.present))
