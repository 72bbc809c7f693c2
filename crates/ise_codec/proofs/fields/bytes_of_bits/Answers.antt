use Rattle.std.proofs.Common.{◌∙◌, ap, arith}
use Rattle.astc_model.specs.Bits.{number_of}
use Rattle.ise_codec.proofs.ByteLemmas.{number_of-bytes}
use Rattle.ise_codec.proofs.fields.bytes_of_bits.Goals as goal

pub returns : goal.returns
returns c = ap number_of c.to_le_bytes.ensures ∙ number_of-bytes c.args.block (omega arith)
