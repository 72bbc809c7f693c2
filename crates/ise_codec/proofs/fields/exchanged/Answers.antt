use Rattle.ise_codec.proofs.FieldLemmas.{exchange_is}
use Rattle.ise_codec.proofs.fields.exchanged.Goals as goal

pub returns : goal.returns
returns c = λ k lt. exchange_is c.args.block c.args.width c.args.mask k c.requires.mask lt
