use Rattle.std.proofs.Common.{cond, leb, get_or, replicate, sym, subst, w8}
use Rattle.std.proofs.lemmas.Simd.{tops_compared}
use Rattle.std.specs.Simd.Lanes.{sel_l}
use Rattle.texel_lanes.specs.Lanes.{HasLanes}
use Rattle.texel_lanes.proofs.LaneLaws.{chosen_from}
use Rattle.texel_lanes.proofs.look_ups.chosen.Goals as goal

pub returns : goal.returns
returns c =
    let v = c.args.places in
    let a = c.args.from in
    let b = c.args.below in
    let x = c.args.least in
    subst (λ ms. HasLanes 16 (sel_l ms a b)
    (λ k. cond (leb x (get_or v k 0)) (get_or a k 0) (get_or b k 0)))
    (sym (tops_compared w8 leb (replicate 16 x) v))
    (chosen_from 16 leb x v a b c.fits-places.0 c.requires.from c.requires.below)
