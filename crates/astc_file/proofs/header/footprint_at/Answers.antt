use Rattle.std.proofs.Common.{sym}
use Rattle.astc_file.proofs.FootprintLemmas.{footprint_of}
use Rattle.astc_file.proofs.header.footprint_at.Goals as goal

pub returns : goal.returns
returns c = sym (footprint_of c.of.result c.args.width c.args.height c.of.ensures.listed
    c.of.ensures.same)
