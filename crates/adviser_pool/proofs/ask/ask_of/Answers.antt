use Rattle.adviser_pool.proofs.AskLaws.{ask_is}
use Rattle.adviser_pool.proofs.ask.ask_of.Goals as goal

pub returns-clause-ask : goal.returns-clause-ask
returns-clause-ask g c =
    ask_is c.name-footprint_name.result g.row.W g.row.H c.args.preset c.args.flavour c.args.weights
    c.of.result c.args.source.now c.inside_of.result c.texels_of.result
    c.name-footprint_name.ensures c.of.ensures.same
    (rw c.places-places.ensures.all at c.inside_of.ensures)
    (rw c.places-places.ensures.all at c.texels_of.ensures)
