use Rattle.std.proofs.Common.{arith, subst, sym}
use Rattle.astc_words.specs.Commands.{texts}
use Rattle.parting.proofs.GatherLaws.{name-there}
use Rattle.astc_run.proofs.WordLaws.{texts-long, part-opens, part-creates}
use Rattle.astc_run.proofs.more.part.Goals as goal

pub pack_part-requires-clause-can_open : goal.pack_part-requires-clause-can_open
pack_part-requires-clause-can_open g c =
    let words = c.args.words.now in
    let can_open = g.S.Shelf.can_open c.args.shelf.now in
    subst can_open (sym (name-there words 1 (omega (arith, c.requires.long)) c.input-item.is
    c.as_str.ensures.value).is)
    (part-opens can_open (texts words) c.requires.command
    (texts-long words 3 c.requires.long) c.requires.can_open)

pub pack_part-requires-clause-can_create : goal.pack_part-requires-clause-can_create
pack_part-requires-clause-can_create g c =
    let words = c.args.words.now in
    let can_create = g.S.Shelf.can_create c.args.shelf.now in
    subst can_create (sym (name-there words 2 (omega (arith, c.requires.long)) c.output-item.is
    c.as_str-2.ensures.value).is)
    (part-creates can_create (texts words) c.requires.command
    (texts-long words 3 c.requires.long) c.requires.can_create)
