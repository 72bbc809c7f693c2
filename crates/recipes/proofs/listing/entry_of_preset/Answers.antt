use Rattle.std.proofs.Common.{◌<◌, ◌∙◌, ap, sym}
use Rattle.astc_model.specs.Recipes.{groups}
use Rattle.recipes.specs.Entries.{size_of_all, entry_at}
use Rattle.recipes.proofs.EntryLaws.{length-recipes, at_recipes}
use Rattle.recipes.proofs.listing.entry_of_preset.Goals as goal

pub entry_at-requires-clause-place : goal.entry_at-requires-clause-place
entry_at-requires-clause-place c =
    let below : c.args.i < size_of_all 2048 (groups c.args.preset) =
    rw (← length-recipes c.args.preset) c.requires in
    rw c.spans_of.ensures.groups below

pub returns : goal.returns
returns c =
    c.entry_at.ensures ∙ ap (λ gs. entry_at 2048 gs c.args.i) c.spans_of.ensures.groups
    ∙ sym (at_recipes c.args.preset c.args.i c.requires)
