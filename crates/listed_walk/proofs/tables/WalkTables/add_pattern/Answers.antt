use Rattle.std.specs.Result.{is_ok}
use Rattle.listed_walk.proofs.KnownLaws.{pattern_if}
use Rattle.listed_walk.proofs.tables.WalkTables.add_pattern.Goals as goal

pub invariant_of-self : goal.invariant_of-self
invariant_of-self g c = record {
  known = rw c.push.ensures.items
      (pattern_if g.row.W g.row.H c.args.self.now.patterns.items c.args.self.now.origins.items
      c.args.self.now.known (is_ok c.push.result) c.of.result c.of.ensures);
}
