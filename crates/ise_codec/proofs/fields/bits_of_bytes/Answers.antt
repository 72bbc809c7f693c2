use Rattle.std.proofs.Common.{◌∙◌, arith}
use Rattle.ise_codec.proofs.ByteLemmas.{number_of-is}
use Rattle.ise_codec.proofs.fields.bits_of_bytes.Goals as goal

pub returns : goal.returns
returns c = c.from_le_bytes.ensures ∙ number_of-is c.args.bytes.now 15 (omega arith)
