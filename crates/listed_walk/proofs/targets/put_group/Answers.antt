use Rattle.std.proofs.Common.{◌≡◌, ℕ, ◌+◌, ◌*◌, ◌≤◌, List, [], ◌∷◌, length, get_or, None, subst, sym, ap, ◌∙◌, arith, rules}
use Rattle.astc_model.specs.Places.{channel}
use Rattle.candidates.specs.Pieces.{place_target}
use Rattle.listed_walk.specs.Targets.{IsReach, axis_at}
use Rattle.listed_walk.proofs.TargetLaws.{four_cases, targets_more}
use Rattle.listed_walk.proofs.targets.put_group.Goals as goal

pub returns : goal.returns
returns c = λ component plane ends are within reaches before.
    let parts = c.args.parts.now in
    let places = c.args.places.now in
    let g : ℕ = c.args.g in
    let first : 4 * g + 0 ≡ 4 * g = omega arith in
    let long : length c.args.targets.now ≡ 160 = search rules in
    let own : List ℕ =
    c.target_at.result ∷ c.target_at-2.result ∷ c.target_at-3.result ∷ c.target_at-4.result
    ∷ [] in
    targets_more component plane parts ends places g c.args.targets.now before
    (omega (arith, long, c.requires.group)) own
    (four_cases
    (λ d. channel d own ≡ place_target component plane parts ends places (4 * g + d))
    (c.target_at.ensures.exact component plane ends are (within (4 * g))
    (λ q l is. subst
    (λ k. IsReach (axis_at c.args.axes.now.axes (get_or parts k 0)) q
    (get_or c.args.reaches.now 0 0)) first
    (reaches 0 q (omega arith) (omega (arith, l)) (ap (λ k. get_or places k None) first ∙ is)))
    ∙ ap (place_target component plane parts ends places) (sym first))
    (c.target_at-2.ensures.exact component plane ends are (within (4 * g + 1))
    (λ q l is. reaches 1 q (omega arith) l is))
    (c.target_at-3.ensures.exact component plane ends are (within (4 * g + 2))
    (λ q l is. reaches 2 q (omega arith) l is))
    (c.target_at-4.ensures.exact component plane ends are (within (4 * g + 3))
    (λ q l is. reaches 3 q (omega arith) l is)))
    (four_cases (λ d. channel d own ≤ 64) c.target_at.ensures.small c.target_at-2.ensures.small
    c.target_at-3.ensures.small c.target_at-4.ensures.small)
