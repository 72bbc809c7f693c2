use Rattle.std.proofs.Common.{sym, arith}
use Rattle.astc_model.proofs.SumLaws.{sum_to-more, sum_to-zero}
use Rattle.texel_error.specs.Decoding.{error_of_place}
use Rattle.texel_error.proofs.errors.sum_of.Goals as goal

pub loop-p-init : goal.loop-p-init
loop-p-init c = record {
  sum = sym (sum_to-zero (error_of_place c.args.decoded.now c.args.weights.now c.args.places.now));
  small = omega arith;
}

pub loop-p-preserved : goal.loop-p-preserved
loop-p-preserved c = record {
  sum = omega (
    arith,
    c.loop-p.invariant.sum,
    c.error_at-total.ensures.exact,
    sum_to-more
        (error_of_place c.args.decoded.now c.args.weights.now c.args.places.now) c.loop-p.p,
  );
  small = omega arith;
}
