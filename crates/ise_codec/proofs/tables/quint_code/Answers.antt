use Rattle.ise_codec.proofs.TableLemmas.{QUINT_CODES-at}
use Rattle.ise_codec.proofs.tables.quint_code.Goals as goal

pub returns : goal.returns
returns c = QUINT_CODES-at c.args.a c.args.b c.args.c _ c.requires.a c.requires.b c.requires.c
