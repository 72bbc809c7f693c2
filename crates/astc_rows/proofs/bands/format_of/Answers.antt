use Rattle.astc_rows.proofs.FormatLaws.{format_is}
use Rattle.astc_rows.proofs.bands.format_of.Goals as goal

pub returns : goal.returns
returns c = format_is c.from_gl.result c.args.n c.from_gl.ensures.found c.from_gl.ensures.none
