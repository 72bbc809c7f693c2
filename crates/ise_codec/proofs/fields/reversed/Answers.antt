use Rattle.std.proofs.Common.{refl}
use Rattle.ise_codec.specs.Runs.{is_lower_runs}
use Rattle.ise_codec.proofs.FieldLemmas.{reversed_by_runs}
use Rattle.ise_codec.proofs.fields.reversed.Goals as goal

pub exchanged-bits-requires-clause-mask : goal.exchanged-bits-requires-clause-mask
unfolding is_lower_runs
exchanged-bits-requires-clause-mask c = refl

pub exchanged-pairs-requires-clause-mask : goal.exchanged-pairs-requires-clause-mask
unfolding is_lower_runs
exchanged-pairs-requires-clause-mask c = refl

pub exchanged-nibbles-requires-clause-mask : goal.exchanged-nibbles-requires-clause-mask
unfolding is_lower_runs
exchanged-nibbles-requires-clause-mask c = refl

pub exchanged-bytes-requires-clause-mask : goal.exchanged-bytes-requires-clause-mask
unfolding is_lower_runs
exchanged-bytes-requires-clause-mask c = refl

pub exchanged-shorts-requires-clause-mask : goal.exchanged-shorts-requires-clause-mask
unfolding is_lower_runs
exchanged-shorts-requires-clause-mask c = refl

pub exchanged-words-requires-clause-mask : goal.exchanged-words-requires-clause-mask
unfolding is_lower_runs
exchanged-words-requires-clause-mask c = refl

pub exchanged-requires-clause-mask : goal.exchanged-requires-clause-mask
unfolding is_lower_runs
exchanged-requires-clause-mask c = refl

pub returns : goal.returns
returns c =
    reversed_by_runs c.args.block c.exchanged-bits.result c.exchanged-pairs.result
    c.exchanged-nibbles.result c.exchanged-bytes.result c.exchanged-shorts.result
    c.exchanged-words.result c.exchanged.result
    c.exchanged-bits.ensures c.exchanged-pairs.ensures c.exchanged-nibbles.ensures
    c.exchanged-bytes.ensures c.exchanged-shorts.ensures c.exchanged-words.ensures
    c.exchanged.ensures
