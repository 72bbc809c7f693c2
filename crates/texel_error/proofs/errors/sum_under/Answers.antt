use Rattle.std.proofs.Common.{◌≤◌, ◌<◌, ℕ, length, sym, arith}
use Rattle.astc_model.specs.Sums.{sum_to}
use Rattle.astc_model.proofs.SumLaws.{sum_to-more, sum_to-zero}
use Rattle.texel_error.specs.Limited.{count_under}
use Rattle.texel_error.specs.Decoding.{error_of_place}
use Rattle.texel_error.proofs.LimitLaws.{sum_to-further, count_under-further, count_under-more, under-none}
use Rattle.texel_error.proofs.errors.sum_under.Goals as goal

pub loop-p-init : goal.loop-p-init
loop-p-init g c = record {
  sum = sym (sum_to-zero (error_of_place c.args.decoded.now c.args.weights.now c.args.places.now));
  small = omega arith;
  counted = record { least = omega arith; most = omega arith };
}

pub returns-then-total-limit-clause-exact : goal.returns-then-total-limit-clause-exact
returns-then-total-limit-clause-exact g c =
    let f : ℕ → ℕ = error_of_place c.args.decoded.now c.args.weights.now c.args.places.now in
    under-none c.args.limit (sum_to f (length c.args.places.now))
    (omega (
      arith,
      c.loop-p.invariant.sum,
      sum_to-further f c.loop-p.p (length c.args.places.now)
          (omega arith),
    ))

pub returns-then-total-limit-clause-steps : goal.returns-then-total-limit-clause-steps
returns-then-total-limit-clause-steps g c =
    let f : ℕ → ℕ = error_of_place c.args.decoded.now c.args.weights.now c.args.places.now in
    let more : count_under f c.args.places.now c.args.limit c.loop-p.p ≤ count_under f
    c.args.places.now c.args.limit (length c.args.places.now) =
    count_under-further f c.args.places.now c.args.limit c.loop-p.p (length c.args.places.now)
    (omega arith)
    in
    record {
      least = c.loop-p.invariant.counted.least;
      most = omega (arith, c.loop-p.invariant.counted.most, more);
    }

pub loop-p-preserved : goal.loop-p-preserved
loop-p-preserved g c =
    let f : ℕ → ℕ = error_of_place c.args.decoded.now c.args.weights.now c.args.places.now in
    let below : sum_to f c.loop-p.p < c.args.limit = omega (arith, c.loop-p.invariant.sum) in
    record {
      sum = omega (
        arith,
        c.loop-p.invariant.sum,
        c.counted_error-total.ensures.exact,
        sum_to-more f
            c.loop-p.p,
      );
      small = omega arith;
      counted = record {
        least = omega (
          arith,
          c.loop-p.invariant.counted.least,
          c.counted_error-total.ensures.counted.least,
        );
        most = rw (count_under-more f c.args.places.now c.args.limit c.loop-p.p below)
            (omega (
              arith,
              c.loop-p.invariant.counted.most,
              c.counted_error-total.ensures.counted.most,
            ));
      };
    }
