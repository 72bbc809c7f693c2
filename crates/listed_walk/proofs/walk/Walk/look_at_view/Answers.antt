use Rattle.std.proofs.Common.{sym, ◌∙◌}
use Rattle.listed_walk.proofs.ViewLaws.{keeps_sound, looks_at_it, none_found}
use Rattle.listed_walk.proofs.walk.Walk.look_at_view.Goals as goal

pub returns-then-is_some-clause-sound : goal.returns-then-is_some-clause-sound
returns-then-is_some-clause-sound g c =
    let its = c.args.view.now in
    let aim = c.args.self.now in
    rw (c.take.ensures, c.drawn_candidate.ensures)
    (keeps_sound g.row.W g.row.H aim its c.requires.view c.args.best.now c.error_under-under.result
    c.error_under-under.ensures.exact c.requires.sound)

pub returns-then-is_some-clause-looks : goal.returns-then-is_some-clause-looks
returns-then-is_some-clause-looks g c =
    let its = c.args.view.now in
    let aim = c.args.self.now in
    rw (c.take.ensures, c.drawn_candidate.ensures)
    (looks_at_it g.row.W g.row.H aim its c.requires.view c.args.best.now c.error_under-under.result
    c.error_under-under.ensures.exact)

pub returns-else-is_some-clause-looks : goal.returns-else-is_some-clause-looks
returns-else-is_some-clause-looks g c =
    let its = c.args.view.now in
    let aim = c.args.self.now in
    none_found g.row.W g.row.H aim its c.requires.view c.args.best.now c.error_under-under.result
    c.error_under-under.ensures.exact
    (sym c.is_some.ensures ∙ c.if-is_some.false)
