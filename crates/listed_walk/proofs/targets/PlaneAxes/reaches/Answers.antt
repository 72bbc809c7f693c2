use Rattle.std.proofs.Common.{◌+◌, ◌*◌, get_or, ap, ◌∙◌, arith, w8, Fits}
use Rattle.std.proofs.lemmas.Simd.{Each1-get_or}
use Rattle.listed_walk.specs.Targets.{axis_at}
use Rattle.listed_walk.proofs.TargetLaws.{along_of}
use Rattle.listed_walk.proofs.targets.PlaneAxes.reaches.Goals as goal

pub returns : goal.returns
returns c =
    let axes = c.args.self.now in
    let own = c.args.own in
    let texels = c.args.texels in
    record {
      each = λ component plane ends t part q are l below entries texel. record {
        is = c.along.ensures.exact.each t l
            ∙ along_of (axis_at axes.axes part) q texels c.picked-origins.result
            c.picked-quarters.result c.picked-rests.result t texel
            (λ d m. c.picked-origins.ensures.each (4 * t + d) (omega arith)
            ∙ ap (λ xs. get_or xs (get_or own (4 * t + d) 0) 0) c.lanes_of.ensures
            ∙ ap (λ k. get_or axes.origins k 0) (entries d m) ∙ are.origins part d below m)
            (λ d m. c.picked-quarters.ensures.each (4 * t + d) (omega arith)
            ∙ ap (λ xs. get_or xs (get_or own (4 * t + d) 0) 0) c.lanes_of-2.ensures
            ∙ ap (λ k. get_or axes.quarters k 0) (entries d m) ∙ are.quarters part d below m)
            (λ d m. c.picked-rests.ensures.each (4 * t + d) (omega arith)
            ∙ ap (λ xs. get_or xs (get_or own (4 * t + d) 0) 0) c.lanes_of-3.ensures
            ∙ ap (λ k. get_or axes.rests k 0) (entries d m) ∙ are.rests part d below m);
        bytes = λ d m.
            let long = c.requires.texels in
            omega (
              arith,
              texel d m,
              (Each1-get_or (Fits w8) texels (4 * t + d) 0 (omega arith) c.fits-texels.1).fits,
            );
      };
      small = c.along.ensures.small;
    }
