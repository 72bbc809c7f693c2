use Rattle.std.proofs.Common.{List, length, sym, ◌∙◌, arith}
use Rattle.std.proofs.lemmas.Bool.{eqb-true}
use Rattle.astc_model.specs.declared.recipe.Recipe.{Recipe}
use Rattle.listed_walk.proofs.LookLaws.{walk_of}
use Rattle.listed_walk.proofs.walk.lists_none_under.Goals as goal

pub returns-else-limit-eq0 : goal.returns-else-limit-eq0
returns-else-limit-eq0 c = λ w h aim empty.
    let items : List Recipe = c.shapes_of.result.now in
    c.walks_meet_candidates.ensures.all w h aim.flavour aim.weights c.args.preset aim.places
    c.args.limit
    (walk_of w h aim c.args.preset items 0 c.args.limit c.shapes_of.ensures.exact
    (omega (arith, eqb-true (length items) 0 (sym c.is_empty.ensures ∙ empty)))
    (λ k d small. absurd (omega (arith, small))))
