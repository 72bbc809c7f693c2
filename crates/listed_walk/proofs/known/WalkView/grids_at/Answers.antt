use Rattle.std.proofs.Common.{◌≡◌, ◌-◌, ◌*◌, ◌<◌, ◌≤◌, arith, drop, length, rules}
use Rattle.std.proofs.lemmas.List.{length-drop, take_all}
use Rattle.listed_walk.proofs.KnownLaws.{grids_of_pattern}
use Rattle.listed_walk.proofs.known.WalkView.grids_at.Goals as goal

pub returns : goal.returns
returns g c =
    let known = c.args.self.now in
    let table = known.origins.now in
    let first = c.min-first.result in
    let short : first ≤ length table = search rules in
    let place : first < length table → first ≡ c.args.i * 121 = λ below. search rules in
    rw (
      c.as_slice.ensures.value,
      ← c.index-self-i.is,
      take_all (length table - first)
          (drop first table) (omega (arith, length-drop first table)),
    )
    (grids_of_pattern g.row.W g.row.H known.patterns.now table known.known c.args.i first
    c.index-self-i.result c.requires c.index-self-i.is short place)
