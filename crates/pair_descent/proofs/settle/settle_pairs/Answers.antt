use Rattle.pair_descent.proofs.SettleLaws.{plain_packed}
use Rattle.pair_descent.proofs.settle.settle_pairs.Goals as goal

pub returns-clause-settled : goal.returns-clause-settled
returns-clause-settled g c = plain_packed g.row.W g.row.H _ _ _ _ _
    (rw c.new-goal.ensures at c.packed_block.ensures.settled)
