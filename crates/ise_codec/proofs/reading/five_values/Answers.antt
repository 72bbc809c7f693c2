use Rattle.std.proofs.Common.{◌+◌, ◌*◌, arith}
use Rattle.astc_model.specs.Sequences.{trit_group}
use Rattle.ise_codec.proofs.GroupLemmas.{trit_fits}
use Rattle.ise_codec.proofs.reading.five_values.Goals as goal

pub joined-requires-clause-fits : goal.joined-requires-clause-fits
joined-requires-clause-fits c =
    trit_fits c.args.low c.args.group 0 (0) c.trits_of-digits.result c.small_field.result
    (omega arith) (omega arith) c.trits_of-digits.ensures c.small_field.ensures.field

pub joined-requires-2-clause-fits : goal.joined-requires-2-clause-fits
joined-requires-2-clause-fits c =
    trit_fits c.args.low c.args.group 1 (c.args.low + 2) c.trits_of-digits.result
    c.small_field-2.result (omega arith) (omega arith) c.trits_of-digits.ensures
    c.small_field-2.ensures.field

pub joined-requires-3-clause-fits : goal.joined-requires-3-clause-fits
joined-requires-3-clause-fits c =
    trit_fits c.args.low c.args.group 2 (2 * c.args.low + 4) c.trits_of-digits.result
    c.small_field-3.result (omega arith) (omega arith) c.trits_of-digits.ensures
    c.small_field-3.ensures.field

pub joined-requires-4-clause-fits : goal.joined-requires-4-clause-fits
joined-requires-4-clause-fits c =
    trit_fits c.args.low c.args.group 3 (3 * c.args.low + 5) c.trits_of-digits.result
    c.small_field-4.result (omega arith) (omega arith) c.trits_of-digits.ensures
    c.small_field-4.ensures.field

pub joined-requires-5-clause-fits : goal.joined-requires-5-clause-fits
joined-requires-5-clause-fits c =
    trit_fits c.args.low c.args.group 4 (4 * c.args.low + 7) c.trits_of-digits.result
    c.small_field-5.result (omega arith) (omega arith) c.trits_of-digits.ensures
    c.small_field-5.ensures.field

pub returns : goal.returns
unfolding trit_group
returns c = cc
