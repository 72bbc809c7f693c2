use Rattle.ise_codec.proofs.TableLemmas.{TRIT_CODES-at}
use Rattle.ise_codec.proofs.tables.trit_code.Goals as goal

pub returns : goal.returns
returns c =
    TRIT_CODES-at c.args.a c.args.b c.args.c c.args.d c.args.e _ c.requires.a c.requires.b
    c.requires.c c.requires.d c.requires.e
