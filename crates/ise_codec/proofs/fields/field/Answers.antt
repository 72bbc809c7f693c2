use Rattle.std.proofs.Common.{arith}
use Rattle.astc_model.proofs.BitLaws.{field_of-lt}
use Rattle.ise_codec.proofs.FieldLemmas.{field_of-none, field_by_mask}
use Rattle.ise_codec.proofs.fields.field.Goals as goal

pub returns-then-n-eq0-clause-value : goal.returns-then-n-eq0-clause-value
returns-then-n-eq0-clause-value c = field_of-none c.args.block c.args.at c.args.n (omega arith)

pub returns-clause-value : goal.returns-clause-value
returns-clause-value c = field_by_mask c.args.block c.args.at c.args.n (omega arith)

pub returns-clause-small : goal.returns-clause-small
returns-clause-small c =
    let mask = field_by_mask c.args.block c.args.at c.args.n (omega arith) in
    omega (arith, mask, field_of-lt c.args.block c.args.at c.args.n)
