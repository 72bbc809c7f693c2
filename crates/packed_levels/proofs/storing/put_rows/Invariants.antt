use Rattle.std.proofs.Common.{◌≡◌, ◌++◌, false, map}
use Rattle.adviser_pool.specs.Pools.{advisers}
use Rattle.tex_shelf.specs.Frames.{OnlyWrites}
use Rattle.texture.specs.Rows.{block_rows}
use Rattle.packed_levels.proofs.FrontLaws.{ArePut}
use Rattle.packed_levels.proofs.storing.put_rows.Given as goal

abbrev pub invariant-loop-row : goal.invariant-loop-row
invariant-loop-row g l = record {
  put : ArePut l.fn.layout l.fn.packer l.fn.levels l.yielded
      (map (λ b. (goal.Adviser-dyn g (b.vtable, b.value)).state b.value) (advisers l.fn.pool))
      (map (λ b. (goal.Adviser-dyn g (b.vtable, b.value)).state b.value) (advisers l.pool))
      (g.S.Shelf.files l.fn.shelf) (g.S.Shelf.target l.fn.shelf)
      (g.S.Shelf.files l.shelf) l.errors.items;
  rows : l.yielded ++ l.row-iterator ≡ block_rows l.fn.layout;
  untouched : l.fn.packer.advised ≡ false → l.pool ≡ l.fn.pool;
  target : g.S.Shelf.target l.shelf ≡ g.S.Shelf.target l.fn.shelf;
  rest : OnlyWrites g.S.Shelf l.fn.shelf l.shelf;
}
