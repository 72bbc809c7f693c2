use Rattle.std.proofs.Common.{ap, ◌∙◌, ◌++◌}
use Rattle.std.proofs.lemmas.Result.{on_ok_weaker}
use Rattle.unpacking.specs.Unpacked.{header_before}
use Rattle.unpacking.proofs.ImageLaws.{blocks-within, piece-is}
use Rattle.unpacking.proofs.bands.UnpackedRow.fill.Goals as goal

pub slice_bounds-blocks-end : goal.slice_bounds-blocks-end
slice_bounds-blocks-end g c =
    blocks-within c.args.ktx.now c.args.row c.requires.row _ c.blocks-2.ensures.full

pub returns-clause-bytes : goal.returns-clause-bytes
returns-clause-bytes g c = on_ok_weaker c.push_rows.result (λ put.
    piece-is c.args.ktx.now c.args.row c.requires.row (g.row.W, g.row.H) c.shape-shape.result
    c.blocks-2.result.now _ _ _ _ _ _ c.requires.sides c.shape-shape.ensures.same
    c.blocks-2.ensures.same c.blocks-2.ensures.full
    (rw c.deref.ensures.value c.in_ok-decode_row.ensures.decoded) c.side_at_level-width.ensures
    c.side_at_level-height.ensures
    (rw (c.sides-unit.ensures, c.side_at_level-height.ensures, c.shape-shape.ensures.same)
    at c.min-rows.ensures)
    (c.in_ok-push_header.ensures
    ∙ ap (λ xs. xs ++ header_before c.args.row c.side_at_level-width.result
    c.side_at_level-height.result) c.clear.ensures.items) put) c.push_rows.ensures
