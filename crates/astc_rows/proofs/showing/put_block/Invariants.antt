use Rattle.astc_rows.proofs.ShowingLaws.{ArePut}
use Rattle.astc_rows.proofs.showing.put_block.Given as goal

-- the block's texels at the places so far are in the picture, and those of other blocks are
-- unchanged
abbrev pub invariant-loop-p : goal.invariant-loop-p
invariant-loop-p g l = ArePut g.row.W g.row.H l.fn.band l.fn.k l.p l.block l.initial.texels l.texels
