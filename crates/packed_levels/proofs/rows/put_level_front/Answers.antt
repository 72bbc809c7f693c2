use Rattle.std.proofs.Common.{◌∙◌, ap, sym}
use Rattle.tex_shelf.specs.Files.{with_more}
use Rattle.outcomes.proofs.PieceLaws.{put-none}
use Rattle.packed_levels.proofs.RowsLaws.{front-empty}
use Rattle.packed_levels.proofs.rows.put_level_front.Goals as goal

pub returns-else-begins_level-clause-puts : goal.returns-else-begins_level-clause-puts
returns-else-begins_level-clause-puts g c =
    put-none (g.S.Shelf.files c.args.shelf.now) (g.S.Shelf.target c.args.shelf.now)
    ∙ ap (with_more (g.S.Shelf.files c.args.shelf.now) (g.S.Shelf.target c.args.shelf.now))
    (sym (front-empty c.args.layout.now c.args.row.now (sym c.begins_level.ensures
    ∙ c.if-begins_level.false)))
