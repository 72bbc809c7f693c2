use Rattle.std.proofs.Common.{◌≡◌, ◌++◌, take}
use Rattle.std.specs.List.{flat_map}
use Rattle.tex_shelf.specs.Files.{with_more}
use Rattle.tex_shelf.specs.Frames.{OnlyWrites}
use Rattle.astc_model.specs.FootprintNames.{sides_of}
use Rattle.texture.specs.Rows.{block_rows}
use Rattle.texture.specs.Walks.{blocks_in}
use Rattle.unpacking.specs.Bands.{faults_of}
use Rattle.unpacking.specs.Unpacked.{piece_of}
use Rattle.unpacking.proofs.storing.put_rows.Given as goal

abbrev pub invariant-loop-row : goal.invariant-loop-row
invariant-loop-row g l = record {
  files : g.S.Shelf.files l.shelf ≡ with_more (g.S.Shelf.files l.initial.shelf)
      (g.S.Shelf.target l.initial.shelf) (flat_map (piece_of l.fn.ktx) l.yielded);
  target : g.S.Shelf.target l.shelf ≡ g.S.Shelf.target l.initial.shelf;
  rest : OnlyWrites g.S.Shelf l.initial.shelf l.shelf;
  rows : l.yielded ++ l.row-iterator ≡ block_rows l.fn.ktx.shape;
  faults : l.faults.items ≡ faults_of (sides_of l.fn.ktx.shape.name).0
      (sides_of l.fn.ktx.shape.name).1 (take (blocks_in l.yielded) l.fn.ktx.blocks);
}
