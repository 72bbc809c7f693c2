use Rattle.std.proofs.Common.{◌+◌, ◌*◌, ◌/◌, ◌%◌, None, rules}
use Rattle.std.proofs.lemmas.List.FromFn.{fill_by_all}
use Rattle.images.specs.Pictures.{texel_at, source_of}
use Rattle.images.proofs.sources.source_at.Goals as goal

pub returns : goal.returns
unfolding source_of
returns g c =
    fill_by_all
    (λ p. texel_at c.args.images.now c.args.image (c.args.column * g.row.W + p % g.row.W)
    (c.args.row * g.row.H + p / g.row.W))
    c.loop-place.source (g.row.W * g.row.H) None c.loop-place.invariant.count
    (λ k below. c.loop-place.invariant.done k (search rules))
