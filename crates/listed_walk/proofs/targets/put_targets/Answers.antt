use Rattle.std.proofs.Common.{◌≡◌, ℕ, ◌+◌, ◌*◌, ◌<◌, None, get_or, ap, subst, sym, ◌∙◌, arith}
use Rattle.listed_walk.specs.Targets.{AreTargetsTo}
use Rattle.listed_walk.proofs.targets.put_targets.Goals as goal

pub loop-g-preserved : goal.loop-g-preserved
loop-g-preserved g c =
    let layout = c.args.layout.now in
    let at : ℕ = c.loop-g.g in
    let component : ℕ = layout.shape.now.plane in
    let ends = c.args.ends.now in
    let more : 4 * at + 4 ≡ 4 * (at + 1) = omega arith in
    let places = c.places-places.result.now in
    let count = c.places-places.ensures.count in
    let all : places ≡ c.args.goal.now.places = c.places-places.ensures.all ∙ c.source.ensures in
    record {
      count = c.put_group.array_long;
      are = subst (λ ps. AreTargetsTo component c.args.plane layout.parts.now ends ps
          (4 * (at + 1)) c.put_group.new.targets) all
          (subst (λ n. AreTargetsTo component c.args.plane layout.parts.now ends places n
          c.put_group.new.targets) more
          (c.put_group.ensures component c.args.plane ends c.of-axes.ensures.axes
          (λ p l. c.requires.parts p (omega (arith, l, count)))
          (λ t q l inside is.
          let below : 4 * at + t < g.row.W * g.row.H = omega (arith, inside, count) in
          c.reaches-reaches.ensures.each component c.args.plane ends t
          (get_or layout.parts.now (4 * at + t) 0) q c.of-axes.ensures.axes l
          (c.requires.parts (4 * at + t) below)
          (λ d m. c.four_texels_at-own.ensures.each (4 * t + d) (omega arith)
          ∙ ap (λ k. get_or layout.partitions.now.lanes k 0) (omega arith)
          ∙ c.requires.layout.partitions.each (4 * at + t) d (omega arith) m)
          (λ d m. c.four_texels_at.ensures.each (4 * t + d) (omega arith)
          ∙ ap (λ k. get_or c.args.source.now.texels k 0) (omega arith)
          ∙ c.requires.source.texels (4 * at + t) d q below m
          (ap (λ ps. get_or ps (4 * at + t) None) (sym all) ∙ is)))
          (subst (λ ps. AreTargetsTo component c.args.plane layout.parts.now ends ps (4 * at)
          c.loop-g.targets) (sym all) c.loop-g.invariant.are)));
    }
