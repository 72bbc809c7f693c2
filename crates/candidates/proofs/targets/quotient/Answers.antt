use Rattle.std.proofs.Common.{◌≡◌, ◌∙◌, w32, arith}
use Rattle.std.proofs.lemmas.Int.{to_z-of_z}
use Rattle.candidates.specs.Axes.{within}
use Rattle.candidates.proofs.AxisLaws.{quotient_by}
use Rattle.candidates.proofs.targets.quotient.Goals as goal

pub returns-clause-quotient : goal.returns-clause-quotient
returns-clause-quotient c =
    let inside : c.within.result ≡ within c.args.n c.args.length =
    simp (to_z-of_z, c.ranges.n) at c.within.ensures in
    quotient_by c.args.n c.args.length _ _ _ _ inside c.from.ensures (c.from-2.ensures
    ∙ c.max.ensures) c.divided.ensures
