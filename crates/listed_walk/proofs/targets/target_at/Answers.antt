use Rattle.std.proofs.Common.{ℕ, ◌<◌, None, get_or, refl, ap, sym, ◌∙◌, arith}
use Rattle.std.specs.Prelude.{slice_index_or}
use Rattle.std.proofs.lemmas.List.{get_or_past}
use Rattle.astc_model.specs.Candidates.{no_ends}
use Rattle.candidates.specs.Pieces.{place_target, texel_target}
use Rattle.listed_walk.specs.Targets.{axis_at}
use Rattle.listed_walk.proofs.TargetLaws.{target_is}
use Rattle.listed_walk.proofs.targets.target_at.Goals as goal

pub returns-then-p-places-clause-exact : goal.returns-then-p-places-clause-exact
unfolding place_target
returns-then-p-places-clause-exact c = λ component plane ends are within reaches.
    let none = get_or_past c.args.places.now c.args.p None c.if-p-places.true in rw none refl

pub returns-in-None-clause-exact : goal.returns-in-None-clause-exact
unfolding place_target
returns-in-None-clause-exact c = λ component plane ends are within reaches. rw c.in-None.is refl

pub returns-in-Some-clause-exact : goal.returns-in-Some-clause-exact
unfolding place_target
returns-in-Some-clause-exact c = λ component plane ends are within reaches.
    let axes = c.args.axes.now in
    let p : ℕ = c.args.p in
    let part : ℕ = get_or c.args.parts.now p 0 in
    let inside : p < _ = c.if-p-places.false in
    let below = within (omega (arith, inside)) in
    let reached = reaches _ (omega (arith, inside)) c.in-Some.is in
    (rw c.from-part.ensures at c.target_along.ensures.target)
    ∙ target_is component plane (slice_index_or ends part no_ends) (axis_at axes.axes part) _
    c.args.reach (get_or axes.starts part 0) (are.axes.each part below) reached.bytes
    (λ d m. are.firsts part d below m) reached.is (are.starts part below)
    ∙ ap (λ texel. texel_target component plane texel (slice_index_or ends part no_ends))
    (sym c.in-Some.is)
