use Rattle.std.proofs.Common.{subst}
use Rattle.packed_levels.specs.Settling.{IsSettledFor}
use Rattle.packed_levels.specs.Settled.{proposed_at, way_by}
use Rattle.packed_levels.proofs.SettledLaws.{source-known}
use Rattle.packed_levels.proofs.settling.settle_block.Goals as goal

pub returns-clause-settled : goal.returns-clause-settled
returns-clause-settled g c =
    subst (λ places. IsSettledFor (way_by g.row.W g.row.H c.args.encoder.now) places
    (proposed_at (way_by g.row.W g.row.H c.args.encoder.now) c.args.others.now
    c.args.number) c.settle_source.result.0 c.settle_source.result.1)
    (source-known g.row.W g.row.H c.args.layout.now c.args.levels.now c.args.number
    c.block_place-place.result c.index-levels-place.result c.source_at-source.result
    c.requires.sides c.requires.levels c.block_place-place.ensures
    c.index-levels-place.is (rw c.shape.ensures.same at c.source_at-source.ensures))
    c.settle_source.ensures.settled
