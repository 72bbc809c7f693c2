use Rattle.std.proofs.Common.{refl}
use Rattle.pair_descent.proofs.least.pair_least_coded.Goals as goal

pub returns-in-None : goal.returns-in-None
returns-in-None g c =
    let none = rw c.in-None.is at c.better_block.ensures.finds in
    (λ yes. rw c.new-goal.ensures at none, λ least. refl)
