use Rattle.std.proofs.Common.{◌*◌, ◌<◌, length, arith}
use Rattle.listed_walk.proofs.KnownLaws.{origins_more}
use Rattle.listed_walk.proofs.tables.WalkArrays.add_origins.Goals as goal

pub invariant_of-self-in-loop-self : goal.invariant_of-self-in-loop-self
invariant_of-self-in-loop-self g c =
    let patterns = c.loop-self.self.patterns.items in
    let table = c.loop-self.self.origins.items in
    let room : length table < length patterns * 121 =
    omega (arith, c.loop-self-test.true, c.len.ensures, c.len-in-loop-self.ensures) in
    let own = rw (c.as_slice.ensures.value, c.len-in-loop-self-2.ensures.value) at
    c.origins_at-next.ensures in
    record {
      known = rw c.push.ensures.items
          (origins_more g.row.W g.row.H patterns table c.loop-self.self.known
          c.origins_at-next.result room own);
    }
