use Rattle.std.proofs.Common.{◌∙◌, arith}
use Rattle.tex_shelf.proofs.PieceLemmas.{one_more, piece_on}
use Rattle.tex_shelf.proofs.pieces.push_pieces.Goals as goal

pub loop-preserved : goal.loop-preserved
loop-preserved g c = record {
  same = rw c.in_ok-push.ensures.items
      (piece_on g.row.N c.loop.pieces.items c.args.count c.loop.counter c.loop.rest.now
      c.copy_from_slice.new.self c.split_at.result.1.now _ c.loop-test.true
      (c.copy_from_slice.ensures.after ∙ c.split_at.ensures.front) c.split_at.ensures.back
      c.loop.invariant.same);
  size = omega (
    arith,
    c.split_at.ensures.back_len,
    c.loop.invariant.size,
    one_more g.row.N
        c.args.count c.loop.counter c.loop-test.true,
  );
}
