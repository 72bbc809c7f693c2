use Rattle.std.proofs.Common.{◌-◌, arith}
use Rattle.ise_codec.proofs.WritingLemmas.{bits_more, bits_fit, bits_end}
use Rattle.ise_codec.proofs.writing.write_bits.Goals as goal

pub loop-first-init : goal.loop-first-init
loop-first-init c = (bits_end c.args.low c.args.values.now, omega arith)

pub overflow_add-written : goal.overflow_add-written
overflow_add-written c =
    let more = bits_more c.args.low c.args.values.now c.loop-first.first c.loop-first.written
    c.from.result (omega arith) c.loop-first.invariant.1 c.requires.under c.requires.inside
    c.loop-first.invariant.0 c.from.ensures in
    omega (
      arith,
      more,
      bits_fit c.args.low c.args.values.now
          (c.loop-first.first - 1) c.requires.under c.requires.inside,
    )

pub loop-first-preserved : goal.loop-first-preserved
loop-first-preserved c = (
  bits_more c.args.low c.args.values.now c.loop-first.first c.loop-first.written c.from.result
      (omega arith) c.loop-first.invariant.1 c.requires.under c.requires.inside
      c.loop-first.invariant.0 c.from.ensures,
  omega (arith, c.loop-first.invariant.1),
)
