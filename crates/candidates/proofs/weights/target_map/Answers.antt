use Rattle.std.proofs.Common.{◌≤◌, length, arith}
use Rattle.candidates.specs.Pieces.{target_map, place_target}
use Rattle.astc_model.proofs.ListLaws.{front_is}
use Rattle.candidates.proofs.BoundsLaws.{all_of_front}
use Rattle.candidates.proofs.weights.target_map.Goals as goal

pub returns-clause-targets : goal.returns-clause-targets
unfolding target_map
returns-clause-targets c =
    let within : length c.args.places.now ≤ length c.loop-p.targets =
    omega (arith, c.loop-p.invariant.count) in
    front_is (place_target c.args.component c.args.plane c.args.parts.now c.args.ends.now
    c.args.places.now) c.loop-p.targets (length c.args.places.now) within
    (λ k below. c.loop-p.invariant.targets k (omega arith))

pub returns-clause-small : goal.returns-clause-small
returns-clause-small c = all_of_front 64 c.loop-p.targets (length c.args.places.now)
    (λ k below. c.loop-p.invariant.small k (omega arith))
