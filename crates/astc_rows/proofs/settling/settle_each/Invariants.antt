use Rattle.std.proofs.Common.{◌≡◌, ℕ, ◌*◌, ◌^◌, ◌≤◌, length, []}
use Rattle.std.specs.Prelude.{slice_index_or}
use Rattle.astc_rows.specs.Settling.{AreRowsSettled, proposals_at}
use Rattle.astc_rows.proofs.settling.settle_each.Given as goal

-- the blocks so far are settled, and the others are unchanged
abbrev pub invariant-loop-k : goal.invariant-loop-k
invariant-loop-k g l = record {
  count : length l.blocks ≡ length l.initial.blocks;
  settled : AreRowsSettled g.row.W g.row.H l.fn.band l.way l.texels
      (proposals_at g.row.W g.row.H l.fn.keeps l.initial.blocks) l.k l.blocks l.total;
  later : (j : ℕ) → l.k ≤ j → slice_index_or l.blocks j [] ≡ slice_index_or l.initial.blocks j [];
  small : l.total ≤ l.k * 2 ^ 32;
}
