use Rattle.std.proofs.Common.{◌∙◌, sym, ap}
use Rattle.texture.proofs.RowLaws.{none-left}
use Rattle.texture.proofs.rows.BlockRowsIterator.next.Goals as goal

pub returns-then-at-shape-clause-steps : goal.returns-then-at-shape-clause-steps
returns-then-at-shape-clause-steps c =
    let at = c.self.inside.at in
    let none = sym c.self.view_is ∙ none-left c.self.inside.layout at.level at.image at.row
    (c.if-at-shape.true ∙ ap (λ shape. shape.levels) c.shape.ensures.same) in
    (none, none)
