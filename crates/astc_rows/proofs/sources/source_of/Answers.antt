use Rattle.std.proofs.Common.{◌+◌, ◌*◌, ◌/◌, ◌%◌, None, rules}
use Rattle.std.proofs.lemmas.List.FromFn.{fill_by_all}
use Rattle.images.specs.Pictures.{texel_at, source_of}
use Rattle.astc_rows.specs.Bands.{picture}
use Rattle.astc_rows.proofs.sources.source_of.Goals as goal

pub returns : goal.returns
unfolding source_of
returns g c =
    fill_by_all
    (λ p. texel_at (picture c.args.band c.args.texels.now) 0 (c.args.column * g.row.W + p % g.row.W)
    (c.args.row * g.row.H + p / g.row.W))
    c.loop-place.source (g.row.W * g.row.H) None c.loop-place.invariant.count
    (λ k below. c.loop-place.invariant.done k (search rules))
