use Rattle.std.proofs.Common.{sym, ◌∙◌, ap}
use Rattle.std.specs.Option.{is_some}
use Rattle.candidates.proofs.RecipeLaws.{candidate-is_some}
use Rattle.candidates.proofs.assembly.candidate.Goals as goal

pub returns-clause-legal_recipe : goal.returns-clause-legal_recipe
returns-clause-legal_recipe g c =
    let same = ap is_some c.block_of.ensures
    ∙ candidate-is_some g.row.W g.row.H c.args.recipe.now c.args.source.now in
    ((λ some. sym same ∙ some), (λ legal. same ∙ legal))
