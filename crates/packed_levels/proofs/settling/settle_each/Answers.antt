use Rattle.std.proofs.Common.{◌≡◌, length, arith, rules}
use Rattle.packed_levels.specs.Sources.{sources}
use Rattle.packed_levels.specs.Settled.{way_by}
use Rattle.packed_levels.proofs.SettledLaws.{from-more}
use Rattle.packed_levels.proofs.settling.settle_each.Goals as goal

pub overflow_add-number : goal.overflow_add-number
overflow_add-number g c =
    omega (
      arith,
      c.loop-k-test.true,
      c.loop-k.auto.k-end,
      c.requires.range,
      c.all_blocks.ensures.most,
    )

pub loop-k-preserved : goal.loop-k-preserved
loop-k-preserved g c =
    let size : length c.settle_block-error.result.0 ≡ 16 = search rules in
    record {
      settled = rw (c.in_ok-push.ensures.items, c.in_ok-push-2.ensures.items)
          (from-more (way_by g.row.W g.row.H c.args.encoder.now) c.args.others.now
          (sources c.args.layout.now c.args.levels.now) c.args.range.start _ _
          c.settle_block-error.result.0 c.settle_block-error.result.1 c.loop-k.k
          c.loop-k.invariant.settled c.loop-k.invariant.full size
          c.settle_block-error.ensures.small c.settle_block-error.ensures.settled);
      full = omega (arith, c.in_ok-push.ensures.len, c.loop-k.invariant.full);
    }
