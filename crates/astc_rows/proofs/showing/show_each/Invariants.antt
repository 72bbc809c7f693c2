use Rattle.astc_rows.proofs.ShowingLaws.{AreDrawn}
use Rattle.astc_rows.proofs.showing.show_each.Given as goal

-- the texels of the blocks so far are shown
abbrev pub invariant-loop-k : goal.invariant-loop-k
invariant-loop-k g l = AreDrawn g.row.W g.row.H l.fn.band l.blocks l.k l.initial.texels l.texels
    l.illegal
