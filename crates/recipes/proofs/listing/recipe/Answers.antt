use Rattle.std.proofs.Common.{sym, subst}
use Rattle.recipes.specs.Shapes.{IsRecipe}
use Rattle.recipes.specs.Entries.{no_recipe}
use Rattle.recipes.proofs.ShapeLaws.{all_are_recipes}
use Rattle.recipes.proofs.listing.recipe.Goals as goal

pub returns-clause-in_range : goal.returns-clause-in_range
returns-clause-in_range c = subst IsRecipe (sym c.entry_of_preset.ensures)
    (all_are_recipes c.args.preset c.args.i no_recipe c.requires)
