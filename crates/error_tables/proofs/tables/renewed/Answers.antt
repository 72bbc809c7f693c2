use Rattle.std.proofs.Common.{◌≡◌, ◌≤◌, ◌<◌, ◌+◌, ◌*◌, ◌++◌, [], ◌∷◌, set, get_or, length, take, refl, arith, rules}
use Rattle.std.proofs.lemmas.List.{take_more}
use Rattle.std.proofs.Math.Seq.{take-length}
use Rattle.std.proofs.lemmas.List.Elements.{All-set}
use Rattle.astc_model.specs.Sums.{sum_to}
use Rattle.astc_model.proofs.SumLaws.{sum_to-≤}
use Rattle.texel_error.specs.Decoding.{error_of_place}
use Rattle.error_tables.proofs.RenewLaws.{renew_step, set_sum}
use Rattle.error_tables.proofs.tables.renewed.Goals as goal

pub loop-p-init : goal.loop-p-init
loop-p-init c = record {
  done = λ k. refl;
  small = c.requires.small;
  long = c.requires.all;
  sum = c.requires.total;
}

place_in : (c : goal.After-error_at-here) → c.from-p.result < length c.args.places.now
place_in c = rw c.from-p.ensures (c.requires.within c.loop-p.p-index 0 c.loop-p-test.true)

pub overflow_add-total : goal.overflow_add-total
overflow_add-total c =
    let most : sum_to (λ p. get_or c.loop-p.each p 0)
    (length c.args.places.now) ≤ length c.args.places.now * 3901500 =
    sum_to-≤ (λ p. get_or c.loop-p.each p 0) 3901500 (length c.args.places.now)
    (λ p below. c.loop-p.invariant.small p 0
    (omega (arith, c.loop-p.invariant.long, c.requires.few)))
    in
    omega (arith, c.loop-p.invariant.sum, most, c.error_at-here.ensures.small, c.requires.few)

changed_sum : (c : goal.After-error_at-here)
    → sum_to (λ p. get_or (set c.loop-p.each c.from-p.result c.error_at-here.result) p 0)
    (length c.args.places.now) + get_or c.loop-p.each c.from-p.result 0
    ≡ sum_to (λ p. get_or c.loop-p.each p 0) (length c.args.places.now) + c.error_at-here.result
changed_sum c =
    set_sum c.loop-p.each c.from-p.result c.error_at-here.result (length c.args.places.now)
    (place_in c) (omega (arith, place_in c, c.loop-p.invariant.long, c.requires.few))

pub overflow_sub-total : goal.overflow_sub-total
overflow_sub-total c = omega (arith, c.loop-p.invariant.sum, changed_sum c)

pub loop-p-preserved : goal.loop-p-preserved
loop-p-preserved c =
    let next : take (c.loop-p.p-index + 1) c.args.reach.now ≡ take c.loop-p.p-index c.args.reach.now
    ++ c.from-p.result ∷ [] =
    rw c.from-p.ensures (take_more c.args.reach.now c.loop-p.p-index 0 c.loop-p-test.true)
    in
    rw next (record {
      done = renew_step (λ p. get_or c.args.errors.each p 0)
          (error_of_place c.args.decoded.now c.args.weights.now c.args.places.now) c.loop-p.each
          (take c.loop-p.p-index c.args.reach.now) c.from-p.result c.error_at-here.result
          (omega (arith, place_in c, c.loop-p.invariant.long, c.requires.few))
          c.error_at-here.ensures.exact c.loop-p.invariant.done;
      small = All-set (λ error. error ≤ 3901500) c.loop-p.each c.from-p.result
          c.error_at-here.result c.error_at-here.ensures.small c.loop-p.invariant.small;
      long = search rules;
      sum = omega (arith, c.loop-p.invariant.sum, changed_sum c);
    })

pub returns-clause-each : goal.returns-clause-each
returns-clause-each c =
    let last : c.loop-p.p-index ≡ length c.args.reach.now = omega arith in
    let whole : take c.loop-p.p-index c.args.reach.now ≡ c.args.reach.now =
    rw last (take-length c.args.reach.now) in
    rw whole at c.loop-p.invariant.done
