use Rattle.std.proofs.Common.{arith}
use Rattle.astc_model.specs.Infill.{corners, factors, infill}
use Rattle.weight_infill.proofs.texel_weight.infill.Goals as goal

pub returns-clause-weight : goal.returns-clause-weight
unfolding infill factors corners
returns-clause-weight g c =
    let p00 = rw c.factors.ensures.points at c.share.ensures.product in
    let p01 = rw c.factors.ensures.points at c.share-2.ensures.product in
    let p10 = rw c.factors.ensures.points at c.share-3.ensures.product in
    let p11 = rw c.factors.ensures.points at c.share-4.ensures.product in
    omega (arith, p00, p01, p10, p11)
