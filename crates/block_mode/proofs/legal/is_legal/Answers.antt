use Rattle.std.proofs.Common.{sym, ◌∙◌}
use Rattle.block_mode.proofs.LegalityLemmas.{legal-coded, coded-legal}
use Rattle.block_mode.proofs.legal.is_legal.Goals as goal

pub returns-in-Constant : goal.returns-in-Constant
returns-in-Constant g c = rw c.in-Constant.is c.is_legal_constant.ensures

pub returns-in-Coded : goal.returns-in-Coded
returns-in-Coded g c = (
  λ legal. rw c.in-Coded.is (legal-coded g.row.W g.row.H c.in-Coded.coded c.passes.ensures.modes
      (sym c.passes.ensures.test ∙ legal)),
  λ legal. c.passes.ensures.test ∙ coded-legal g.row.W g.row.H c.in-Coded.coded
      (rw c.in-Coded.is at legal),
)
