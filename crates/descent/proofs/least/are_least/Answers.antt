use Rattle.std.proofs.Common.{ℕ, ◌+◌, ◌-◌, ◌*◌, subst, arith, inl, inr}
use Rattle.std.specs.Prelude.{Option}
use Rattle.std.proofs.lemmas.Bool.{cases_eq}
use Rattle.astc_model.proofs.SumLaws.{sum_to-more}
use Rattle.texel_error.proofs.LimitLaws.{sum_to-further}
use Rattle.error_state.specs.Scans.{integers_of, range_of, reach_count, error_now, least_of, NoBetter, NoValueUnder}
use Rattle.error_state.specs.declared.scans.Better.{Better}
use Rattle.descent.proofs.least.are_least.Goals as goal

pub returns-in-Some-clause-steps : goal.returns-in-Some-clause-steps
returns-in-Some-clause-steps g c =
    let f : ℕ → ℕ = λ i. (range_of c.args.state.now c.args.kind - 1) * reach_count g.row.W g.row.H
    c.args.state.now c.args.kind i in
    let all = sum_to-further f (c.loop-i.i + 1) (integers_of c.args.state.now c.args.kind)
    (omega (arith, c.count-i-end.ensures.exact)) in
    record {
      least = omega (arith, c.loop-i.invariant.steps.least, c.best_value.ensures.steps.least);
      most = omega (
        arith,
        c.loop-i.invariant.steps.most,
        c.best_value.ensures.steps.most,
        sum_to-more f c.loop-i.i,
        all,
      );
    }

pub loop-i-preserved : goal.loop-i-preserved
loop-i-preserved g c =
    let f : ℕ → ℕ = λ i. (range_of c.args.state.now c.args.kind - 1) * reach_count g.row.W g.row.H
    c.args.state.now c.args.kind i in
    let P : Option Better → Type 0 = λ found.
    NoValueUnder g.row.W g.row.H c.args.state.now c.args.kind c.loop-i.i
    (least_of (error_now g.row.W g.row.H c.args.state.now) found) in
    let none : NoBetter g.row.W g.row.H c.args.state.now c.args.kind c.loop-i.i =
    subst P c.in_default.is c.best_value.ensures.least in
    record {
      least = λ k below. elim (cases_eq k c.loop-i.i) [
        | inl last ↦ rw last none
        | inr before ↦ c.loop-i.invariant.least k (omega arith)
      ];
      steps = record {
        least = omega (arith, c.loop-i.invariant.steps.least, c.best_value.ensures.steps.least);
        most = omega (
          arith,
          c.loop-i.invariant.steps.most,
          c.best_value.ensures.steps.most,
          sum_to-more f c.loop-i.i,
        );
      };
    }
