use Rattle.std.proofs.Common.{◌≤◌, arith, rules, sym}
use Rattle.std.proofs.lemmas.List.Elements.{All-set, All-replicate}
use Rattle.astc_model.proofs.SumLaws.{sum_to-more, sum_to-zero}
use Rattle.texel_error.specs.Decoding.{error_of_place}
use Rattle.astc_model.proofs.ListLaws.{fill_step}
use Rattle.error_tables.proofs.tables.errors_of.Goals as goal

pub loop-p-init : goal.loop-p-init
loop-p-init c = record {
  done = λ k below. absurd (omega arith);
  long = search rules;
  small = All-replicate (λ error. error ≤ 3901500) 144 0 (omega arith);
  sum = sym (sum_to-zero _);
  small_sum = omega arith;
}

pub loop-p-preserved : goal.loop-p-preserved
loop-p-preserved c = record {
  done = fill_step (error_of_place c.args.decoded.now c.args.weights.now c.args.places.now)
      c.loop-p.each c.loop-p.p 0 c.error_at-here.result (omega arith) c.error_at-here.ensures.exact
      c.loop-p.invariant.done;
  long = search rules;
  small = All-set (λ error. error ≤ 3901500) c.loop-p.each c.loop-p.p _
      c.error_at-here.ensures.small c.loop-p.invariant.small;
  sum = omega (
    arith,
    c.loop-p.invariant.sum,
    c.error_at-here.ensures.exact,
    sum_to-more
        (error_of_place c.args.decoded.now c.args.weights.now c.args.places.now) c.loop-p.p,
  );
  small_sum = omega arith;
}
