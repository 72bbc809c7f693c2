use Rattle.std.proofs.Common.{arith}
use Rattle.listed_walk.specs.Kinds.{IsLike}
use Rattle.listed_walk.proofs.GroupLaws.{modes_like}
use Rattle.listed_walk.proofs.walk.Walk.look_in_kept_kind.Goals as goal

pub look_at_groups-requires : goal.look_at_groups-requires
look_at_groups-requires g c =
    let shape = c.args.layout.now.shape.now in
    let like : IsLike c.in-Some.made.shape shape =
    rw c.in-Some.is at c.keep_kind.ensures in
    let modes = modes_like g.row.W g.row.H c.in-Some.made.shape shape c.modes.result like
    c.modes.ensures in (omega arith, (c.requires.layout, (modes, c.requires.sound)))
