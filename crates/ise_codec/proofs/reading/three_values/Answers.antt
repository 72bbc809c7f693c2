use Rattle.std.proofs.Common.{◌+◌, ◌*◌, arith}
use Rattle.astc_model.specs.Sequences.{quint_group}
use Rattle.ise_codec.proofs.GroupLemmas.{quint_fits}
use Rattle.ise_codec.proofs.reading.three_values.Goals as goal

pub joined-requires-clause-fits : goal.joined-requires-clause-fits
joined-requires-clause-fits c =
    quint_fits c.args.low c.args.group 0 (0) c.quints_of-digits.result c.small_field.result
    (omega arith) (omega arith) c.quints_of-digits.ensures c.small_field.ensures.field

pub joined-requires-2-clause-fits : goal.joined-requires-2-clause-fits
joined-requires-2-clause-fits c =
    quint_fits c.args.low c.args.group 1 (c.args.low + 3) c.quints_of-digits.result
    c.small_field-2.result (omega arith) (omega arith) c.quints_of-digits.ensures
    c.small_field-2.ensures.field

pub joined-requires-3-clause-fits : goal.joined-requires-3-clause-fits
joined-requires-3-clause-fits c =
    quint_fits c.args.low c.args.group 2 (2 * c.args.low + 5) c.quints_of-digits.result
    c.small_field-3.result (omega arith) (omega arith) c.quints_of-digits.ensures
    c.small_field-3.ensures.field

pub returns : goal.returns
unfolding quint_group
returns c = cc
