use Rattle.std.proofs.Common.{◌≡◌, false, map}
use Rattle.adviser_pool.specs.Pools.{advisers}
use Rattle.packed_levels.specs.Serving.{Settles}
use Rattle.packed_levels.specs.RowSources.{row_sources}
use Rattle.packed_levels.proofs.packer.Packer.fill_row.Given as goal

abbrev pub invariant-loop-column : goal.invariant-loop-column
invariant-loop-column g l = record {
  settles : Settles (record { w = g.row.W; h = g.row.H; options = l.self })
      (row_sources g.row.W g.row.H l.images l.column l.row.image l.row.row)
      (map (λ b. (goal.Adviser-dyn g (b.vtable, b.value)).state b.value) (advisers l.fn.pool))
      (map (λ b. (goal.Adviser-dyn g (b.vtable, b.value)).state b.value) (advisers l.pool))
      l.bytes.items l.fn.errors.items l.errors.items;
  untouched : l.self.advised ≡ false → l.pool ≡ l.fn.pool;
}
