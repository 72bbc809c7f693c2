use Rattle.std.proofs.Common.{◌-◌, ◌*◌, length}
use Rattle.listed_walk.proofs.tables.WalkTables.add_origins.Given as goal

abbrev pub decreases-loop-self : goal.decreases-loop-self
decreases-loop-self g l = length l.self.patterns.items * 121 - length l.self.origins.items
