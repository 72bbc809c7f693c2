use Rattle.ise_codec.proofs.GroupLemmas.{stacked_size}
use Rattle.ise_codec.proofs.writing.stacked.Goals as goal

pub returns-clause-size : goal.returns-clause-size
returns-clause-size c = stacked_size c.args.high c.args.width c.args.field c.requires.room
    c.requires.width c.requires.field
