use Rattle.std.proofs.Common.{◌≡◌, ◌++◌}
use Rattle.tex_shelf.specs.Files.{with_more}
use Rattle.tex_shelf.specs.Frames.{OnlyWrites}
use Rattle.texture.specs.Rows.{block_rows}
use Rattle.ktx_file.specs.Framing.{header_of}
use Rattle.packed_levels.specs.Rows.{rows_bytes}
use Rattle.packed_levels.proofs.stored_texture.put_rows.Given as goal

abbrev pub invariant-loop-row : goal.invariant-loop-row
invariant-loop-row g l = record {
  files : g.S.Shelf.files l.shelf ≡ with_more (g.S.Shelf.files l.fn.shelf)
      (g.S.Shelf.target l.fn.shelf)
      (header_of l.fn.layout ++ rows_bytes l.fn.layout l.yielded l.fn.blocks);
  target : g.S.Shelf.target l.shelf ≡ g.S.Shelf.target l.fn.shelf;
  rest : OnlyWrites g.S.Shelf l.fn.shelf l.shelf;
  rows : l.yielded ++ l.row-iterator ≡ block_rows l.fn.layout;
}
