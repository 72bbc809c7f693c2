use Rattle.astc_model.specs.declared.level.Digit.TheVariants.{Bits, Trit, Quint}
use Rattle.ise_codec.proofs.ReadingLemmas.{read_is, read_len, read_under}
use Rattle.ise_codec.proofs.reading.read_sequence.Goals as goal

pub returns-in-Bits-clause-values : goal.returns-in-Bits-clause-values
returns-in-Bits-clause-values c =
    read_is Bits c.low_bits.result c.field-bits.result c.args.block c.args.at c.bits.result
    c.args.level c.args.count c.read_bits.result.items c.in-Bits.ensures c.low_bits.ensures.bits
    c.bits.ensures c.field-bits.ensures.value c.read_bits.ensures

pub returns-in-Bits-clause-len : goal.returns-in-Bits-clause-len
returns-in-Bits-clause-len c =
    read_len c.args.block c.args.at c.args.level c.args.count c.read_bits.result.items
    (read_is Bits c.low_bits.result c.field-bits.result c.args.block c.args.at c.bits.result
    c.args.level c.args.count c.read_bits.result.items c.in-Bits.ensures
    c.low_bits.ensures.bits c.bits.ensures c.field-bits.ensures.value c.read_bits.ensures)

pub returns-in-Bits-clause-under : goal.returns-in-Bits-clause-under
returns-in-Bits-clause-under c =
    read_under c.args.block c.args.at c.args.level c.args.count c.read_bits.result.items
    (read_is Bits c.low_bits.result c.field-bits.result c.args.block c.args.at c.bits.result
    c.args.level c.args.count c.read_bits.result.items c.in-Bits.ensures
    c.low_bits.ensures.bits c.bits.ensures c.field-bits.ensures.value c.read_bits.ensures)

pub returns-in-Trit-clause-values : goal.returns-in-Trit-clause-values
returns-in-Trit-clause-values c =
    read_is Trit c.low_bits-in-Trit.result c.field-bits.result c.args.block c.args.at c.bits.result
    c.args.level c.args.count c.read_trits.result.items c.in-Trit.ensures
    c.low_bits-in-Trit.ensures.bits c.bits.ensures c.field-bits.ensures.value
    c.read_trits.ensures

pub returns-in-Trit-clause-len : goal.returns-in-Trit-clause-len
returns-in-Trit-clause-len c =
    read_len c.args.block c.args.at c.args.level c.args.count c.read_trits.result.items
    (read_is Trit c.low_bits-in-Trit.result c.field-bits.result c.args.block c.args.at c.bits.result
    c.args.level c.args.count c.read_trits.result.items c.in-Trit.ensures
    c.low_bits-in-Trit.ensures.bits c.bits.ensures c.field-bits.ensures.value
    c.read_trits.ensures)

pub returns-in-Trit-clause-under : goal.returns-in-Trit-clause-under
returns-in-Trit-clause-under c =
    read_under c.args.block c.args.at c.args.level c.args.count c.read_trits.result.items
    (read_is Trit c.low_bits-in-Trit.result c.field-bits.result c.args.block c.args.at c.bits.result
    c.args.level c.args.count c.read_trits.result.items c.in-Trit.ensures
    c.low_bits-in-Trit.ensures.bits c.bits.ensures c.field-bits.ensures.value
    c.read_trits.ensures)

pub returns-in-Quint-clause-values : goal.returns-in-Quint-clause-values
returns-in-Quint-clause-values c =
    read_is Quint c.low_bits-in-Quint.result c.field-bits.result c.args.block c.args.at
    c.bits.result c.args.level c.args.count c.read_quints.result.items c.in-Quint.ensures
    c.low_bits-in-Quint.ensures.bits c.bits.ensures c.field-bits.ensures.value
    c.read_quints.ensures

pub returns-in-Quint-clause-len : goal.returns-in-Quint-clause-len
returns-in-Quint-clause-len c =
    read_len c.args.block c.args.at c.args.level c.args.count c.read_quints.result.items
    (read_is Quint c.low_bits-in-Quint.result c.field-bits.result c.args.block c.args.at
    c.bits.result c.args.level c.args.count c.read_quints.result.items c.in-Quint.ensures
    c.low_bits-in-Quint.ensures.bits c.bits.ensures c.field-bits.ensures.value
    c.read_quints.ensures)

pub returns-in-Quint-clause-under : goal.returns-in-Quint-clause-under
returns-in-Quint-clause-under c =
    read_under c.args.block c.args.at c.args.level c.args.count c.read_quints.result.items
    (read_is Quint c.low_bits-in-Quint.result c.field-bits.result c.args.block c.args.at
    c.bits.result c.args.level c.args.count c.read_quints.result.items c.in-Quint.ensures
    c.low_bits-in-Quint.ensures.bits c.bits.ensures c.field-bits.ensures.value
    c.read_quints.ensures)
