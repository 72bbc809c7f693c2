use Rattle.candidates.proofs.PieceLaws.{coded_of-from, candidate-from}
use Rattle.astc_model.specs.Bounds.{part_map}
use Rattle.candidates.proofs.assembly.candidate_with.Goals as goal

pub returns-clause-candidate : goal.returns-clause-candidate
returns-clause-candidate g c =
    let recipe = c.args.recipe.now in
    candidate-from g.row.W g.row.H recipe c.args.mode.now c.args.places.now c.args.palette.now
    c.copy_of.result.items c.weights_with-weights.result.items c.assembled.result
    c.requires.palette c.copy_of.ensures
    (c.weights_with-weights.ensures recipe.plane (part_map g.row.W g.row.H recipe.parts recipe.seed)
    c.args.palette.now.ends.items c.requires.targets) c.assembled.ensures c.requires.known
    c.requires.level

pub returns-clause-same : goal.returns-clause-same
returns-clause-same g c =
    let recipe = c.args.recipe.now in
    coded_of-from g.row.W g.row.H recipe c.args.mode.now c.args.places.now c.args.palette.now
    c.copy_of.result.items c.weights_with-weights.result.items c.assembled.result
    c.requires.palette c.copy_of.ensures
    (c.weights_with-weights.ensures recipe.plane (part_map g.row.W g.row.H recipe.parts recipe.seed)
    c.args.palette.now.ends.items c.requires.targets) c.assembled.ensures
