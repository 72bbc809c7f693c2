use Rattle.std.proofs.Common.{refl}
use Rattle.unpacking.specs.Bands.{row_from}
use Rattle.unpacking.proofs.BandLaws.{piece-more}
use Rattle.unpacking.proofs.bands.push_rows.Goals as goal

pub loop-y-preserved : goal.loop-y-preserved
loop-y-preserved g c =
    piece-more (λ y. row_from g.row.W c.args.decoded.now y c.args.width) c.loop-y.y
    c.args.raster.now.items _ _ _ c.loop-y.invariant c.in_ok-push_row.ensures refl
