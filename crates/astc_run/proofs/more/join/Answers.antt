use Rattle.std.proofs.Common.{arith, subst, sym}
use Rattle.std.specs.List.{AllByRecursion}
use Rattle.astc_words.specs.Commands.{texts}
use Rattle.parting.proofs.GatherLaws.{name-there}
use Rattle.astc_run.proofs.WordLaws.{texts-long, behind-two, join-opens, join-creates}
use Rattle.astc_run.proofs.more.join.Goals as goal

pub join_parts-requires-clause-can_open : goal.join_parts-requires-clause-can_open
join_parts-requires-clause-can_open g c =
    let words = c.args.words.now in
    let can_open = g.S.Shelf.can_open c.args.shelf.now in
    subst (AllByRecursion can_open) (behind-two words c.requires.long)
    (join-opens can_open (texts words) c.requires.command (texts-long words 3 c.requires.long)
    c.requires.can_open)

pub join_parts-requires-clause-can_create : goal.join_parts-requires-clause-can_create
join_parts-requires-clause-can_create g c =
    let words = c.args.words.now in
    let can_create = g.S.Shelf.can_create c.args.shelf.now in
    subst can_create (sym (name-there words 1 (omega (arith, c.requires.long)) c.output-item.is
    c.as_str.ensures.value).is)
    (join-creates can_create (texts words) c.requires.command (texts-long words 3 c.requires.long)
    c.requires.can_create)
