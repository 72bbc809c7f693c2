use Rattle.listed_walk.specs.Targets.{AreAxisTables}
use Rattle.listed_walk.proofs.targets.AxisTables.of.Given as goal

abbrev pub invariant-loop-part : goal.invariant-loop-part
invariant-loop-part l = AreAxisTables l.axes l.part
    (record { firsts = l.firsts; rises = l.rises; origins = l.origins })
