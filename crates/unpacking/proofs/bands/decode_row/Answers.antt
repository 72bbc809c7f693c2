use Rattle.std.proofs.Common.{sym}
use Rattle.std.proofs.lemmas.List.{append-nil}
use Rattle.unpacking.proofs.BandLaws.{decoded-none, decoded-more, faults-more}
use Rattle.unpacking.proofs.bands.decode_row.Goals as goal

pub loop-k-init : goal.loop-k-init
loop-k-init g c = record {
  decoded = rw c.clear.ensures.items
      (decoded-none g.row.W g.row.H c.args.flavour c.args.blocks.now);
  faults = sym (append-nil c.args.faults.now.items);
}

pub loop-k-preserved : goal.loop-k-preserved
loop-k-preserved g c = record {
  decoded = rw c.in_ok-push.ensures.items
      (decoded-more g.row.W g.row.H c.args.flavour c.args.blocks.now _ _ _
      c.loop-k.invariant.decoded c.shown_of-shown.ensures.texels);
  faults = faults-more g.row.W g.row.H c.args.blocks.now c.loop-k.k _ c.args.faults.now.items _ _
      c.loop-k-test.true c.loop-k.invariant.faults c.in_ok-push-2.ensures.items
      c.shown_of-shown.ensures.illegal;
}
