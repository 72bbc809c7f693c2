use Rattle.std.proofs.Common.{arith}
use Rattle.ise_codec.proofs.TableLemmas.{TRITS-at}
use Rattle.ise_codec.proofs.tables.trits_row.Goals as goal

pub returns : goal.returns
returns c = TRITS-at c.args.t _ (omega arith)
