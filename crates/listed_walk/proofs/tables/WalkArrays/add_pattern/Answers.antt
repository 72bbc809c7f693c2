use Rattle.listed_walk.proofs.KnownLaws.{pattern_more}
use Rattle.listed_walk.proofs.tables.WalkArrays.add_pattern.Goals as goal

pub invariant_of-self : goal.invariant_of-self
invariant_of-self g c = record {
  known = rw c.push.ensures.items
      (pattern_more g.row.W g.row.H c.args.self.now.patterns.items c.args.self.now.origins.items
      c.args.self.now.known c.of.result c.of.ensures);
}
