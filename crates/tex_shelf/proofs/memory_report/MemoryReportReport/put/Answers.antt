use Rattle.std.proofs.Common.{refl}
use Rattle.tex_shelf.proofs.memory_report.MemoryReportReport.put.Goals as goal

pub returns-then-are_due-clause-failed : goal.returns-then-are_due-clause-failed
returns-then-are_due-clause-failed c = rw (← c.self.view_is) (
  λ _. c.if-are_due.ensures.0 refl,
  λ _.
      refl,
)
