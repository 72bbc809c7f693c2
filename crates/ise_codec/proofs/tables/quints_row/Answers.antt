use Rattle.std.proofs.Common.{arith}
use Rattle.ise_codec.proofs.TableLemmas.{QUINTS-at}
use Rattle.ise_codec.proofs.tables.quints_row.Goals as goal

pub returns : goal.returns
returns c = QUINTS-at c.args.q _ (omega arith)
