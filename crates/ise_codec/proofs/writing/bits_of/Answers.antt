use Rattle.std.proofs.Common.{◌/◌, ◌^◌, arith}
use Rattle.ise_codec.proofs.FieldLemmas.{low_by_mask}
use Rattle.ise_codec.proofs.writing.bits_of.Goals as goal

pub returns-clause-value : goal.returns-clause-value
returns-clause-value c =
    rw c.from.ensures (low_by_mask (c.args.digits / 2 ^ c.args.at) c.args.n (omega arith))
