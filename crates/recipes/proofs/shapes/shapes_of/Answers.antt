use Rattle.std.proofs.Common.{sym, subst}
use Rattle.std.specs.List.{All}
use Rattle.recipes.specs.Shapes.{IsShape}
use Rattle.recipes.proofs.ShapeLaws.{all_are_shapes}
use Rattle.recipes.proofs.shapes.shapes_of.Goals as goal

pub returns-clause-each : goal.returns-clause-each
returns-clause-each c = subst (λ shapes. All IsShape shapes) (sym c.part_of_table.ensures)
    (all_are_shapes c.args.preset)
