use Rattle.texel_error.proofs.TexelLaws.{decoded_shows}
use Rattle.texel_error.proofs.decoded.decode_legal.Goals as goal

pub returns-clause-shows : goal.returns-clause-shows
returns-clause-shows g c =
    decoded_shows g.row.W g.row.H c.args.flavour c.args.coded.now c.shape_of-level.result.0
    c.shape_of-level.result.1 c.shape_of-level.ensures _ c.decode_coded.ensures
