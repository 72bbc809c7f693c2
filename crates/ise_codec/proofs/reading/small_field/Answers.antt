use Rattle.std.proofs.Common.{arith}
use Rattle.ise_codec.proofs.FieldLemmas.{small_by_mask}
use Rattle.ise_codec.proofs.reading.small_field.Goals as goal

pub returns-clause-field : goal.returns-clause-field
returns-clause-field c = small_by_mask c.args.group c.args.at c.args.n (omega arith)
