use Rattle.std.proofs.Common.{◌≡◌, refl}
use Rattle.std.proofs.lemmas.Bool.{ne_eqb}
use Rattle.texel_error.specs.Numerators.{last_plane}
use Rattle.texel_error.proofs.weights.numerators.Goals as goal

pub returns-then-planes-eq1-clause-exact : goal.returns-then-planes-eq1-clause-exact
returns-then-planes-eq1-clause-exact c =
    let last : last_plane c.args.planes ≡ 0 = rw c.if-planes-eq1.true refl in
    rw (last, c.plane_numerator-first.ensures.exact) refl

pub returns-else-planes-eq1-clause-exact : goal.returns-else-planes-eq1-clause-exact
returns-else-planes-eq1-clause-exact c =
    let last : last_plane c.args.planes ≡ 1 =
    rw (ne_eqb c.args.planes 1 c.if-planes-eq1.false) refl in
    rw (last, c.plane_numerator-first.ensures.exact, c.plane_numerator.ensures.exact) refl
