use Rattle.astc_model.specs.declared.level.Digit.TheVariants.{Bits, Trit, Quint}
use Rattle.ise_codec.proofs.WritingLemmas.{written_is, written_reads, written_small}
use Rattle.ise_codec.proofs.writing.write_sequence.Goals as goal

pub returns-in-Bits-clause-reads_back : goal.returns-in-Bits-clause-reads_back
returns-in-Bits-clause-reads_back c =
    written_reads c.args.level c.args.values.now c.write_bits.result c.requires.under
    (written_is Bits c.low_bits.result c.args.level c.args.values.now c.write_bits.result
    c.in-Bits.ensures c.low_bits.ensures.bits c.write_bits.ensures)

pub returns-in-Bits-clause-no_more_bits : goal.returns-in-Bits-clause-no_more_bits
returns-in-Bits-clause-no_more_bits c =
    written_small c.args.level c.args.values.now c.write_bits.result c.requires.under
    (written_is Bits c.low_bits.result c.args.level c.args.values.now c.write_bits.result
    c.in-Bits.ensures c.low_bits.ensures.bits c.write_bits.ensures)

pub returns-in-Trit-clause-reads_back : goal.returns-in-Trit-clause-reads_back
returns-in-Trit-clause-reads_back c =
    written_reads c.args.level c.args.values.now c.write_trits.result c.requires.under
    (written_is Trit c.low_bits-in-Trit.result c.args.level c.args.values.now c.write_trits.result
    c.in-Trit.ensures c.low_bits-in-Trit.ensures.bits c.write_trits.ensures)

pub returns-in-Trit-clause-no_more_bits : goal.returns-in-Trit-clause-no_more_bits
returns-in-Trit-clause-no_more_bits c =
    written_small c.args.level c.args.values.now c.write_trits.result c.requires.under
    (written_is Trit c.low_bits-in-Trit.result c.args.level c.args.values.now c.write_trits.result
    c.in-Trit.ensures c.low_bits-in-Trit.ensures.bits c.write_trits.ensures)

pub returns-in-Quint-clause-reads_back : goal.returns-in-Quint-clause-reads_back
returns-in-Quint-clause-reads_back c =
    written_reads c.args.level c.args.values.now c.write_quints.result c.requires.under
    (written_is Quint c.low_bits-in-Quint.result c.args.level c.args.values.now
    c.write_quints.result c.in-Quint.ensures c.low_bits-in-Quint.ensures.bits
    c.write_quints.ensures)

pub returns-in-Quint-clause-no_more_bits : goal.returns-in-Quint-clause-no_more_bits
returns-in-Quint-clause-no_more_bits c =
    written_small c.args.level c.args.values.now c.write_quints.result c.requires.under
    (written_is Quint c.low_bits-in-Quint.result c.args.level c.args.values.now
    c.write_quints.result c.in-Quint.ensures c.low_bits-in-Quint.ensures.bits
    c.write_quints.ensures)
