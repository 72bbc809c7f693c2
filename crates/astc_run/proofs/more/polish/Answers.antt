use Rattle.std.proofs.Common.{arith, subst, sym}
use Rattle.astc_words.specs.Commands.{texts}
use Rattle.parting.proofs.GatherLaws.{name-there}
use Rattle.astc_run.proofs.WordLaws.{texts-long, polish-opens, polish-creates}
use Rattle.astc_run.proofs.more.polish.Goals as goal

pub polish_file-requires-clause-images : goal.polish_file-requires-clause-images
polish_file-requires-clause-images g c =
    let words = c.args.words.now in
    let can_open = g.S.Shelf.can_open c.args.shelf.now in
    subst can_open (sym (name-there words 1 (omega (arith, c.requires.long)) c.images-item.is
    c.as_str.ensures.value).is)
    (polish-opens can_open (texts words) c.requires.command
    (texts-long words 4 c.requires.long) c.requires.can_open).0

pub polish_file-requires-clause-texture : goal.polish_file-requires-clause-texture
polish_file-requires-clause-texture g c =
    let words = c.args.words.now in
    let can_open = g.S.Shelf.can_open c.args.shelf.now in
    subst can_open (sym (name-there words 2 (omega (arith, c.requires.long)) c.texture-item.is
    c.as_str-2.ensures.value).is)
    (polish-opens can_open (texts words) c.requires.command
    (texts-long words 4 c.requires.long) c.requires.can_open).1

pub polish_file-requires-clause-can_create : goal.polish_file-requires-clause-can_create
polish_file-requires-clause-can_create g c =
    let words = c.args.words.now in
    let can_create = g.S.Shelf.can_create c.args.shelf.now in
    subst can_create (sym (name-there words 3 (omega (arith, c.requires.long)) c.output-item.is
    c.as_str-3.ensures.value).is)
    (polish-creates can_create (texts words) c.requires.command
    (texts-long words 4 c.requires.long) c.requires.can_create)
