use Rattle.std.proofs.Common.{◌+◌, ◌*◌, ◌/◌, ◌%◌, [], refl}
use Rattle.std.specs.Prelude.{slice_index_or}
use Rattle.unpacking.proofs.BandLaws.{piece-more}
use Rattle.unpacking.proofs.bands.push_row.Goals as goal

pub loop-x-preserved : goal.loop-x-preserved
loop-x-preserved g c =
    piece-more (λ x. slice_index_or (slice_index_or c.args.decoded.now (x / g.row.W) [])
    (c.args.y * g.row.W + x % g.row.W) []) c.loop-x.x c.args.raster.now.items _ _ _
    c.loop-x.invariant c.in_ok-extend_from_slice.ensures.items refl
