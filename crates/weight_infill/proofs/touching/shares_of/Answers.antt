use Rattle.std.proofs.Common.{◌∙◌, arith, rules, inl, inr}
use Rattle.std.proofs.lemmas.Bool.{cases_eq}
use Rattle.std.proofs.lemmas.List.{get_or-set_same, get_or-set_other}
use Rattle.std.proofs.lemmas.List.Elements.{All-set, All-replicate}
use Rattle.weight_infill.specs.Touched.{IsOfSixteenths}
use Rattle.weight_infill.specs.declared.touching.Share.TheVariants.{Apart}
use Rattle.weight_infill.proofs.touching.shares_of.Goals as goal

pub loop-x-init : goal.loop-x-init
loop-x-init c = record {
  done = λ k below. absurd (omega arith);
  sixteenths = All-replicate IsOfSixteenths 12 Apart tt;
  long = search rules;
}

pub loop-x-preserved : goal.loop-x-preserved
loop-x-preserved c = record {
  done = λ k below. elim (cases_eq k c.loop-x.x) [
    | inl same ↦ rw same (get_or-set_same c.loop-x.shares c.loop-x.x c.share_of.result Apart
        (omega arith) ∙ c.share_of.ensures.exact)
    | inr other ↦ get_or-set_other c.loop-x.shares c.loop-x.x k c.share_of.result Apart other
        ∙ c.loop-x.invariant.done k (omega arith)
  ];
  sixteenths = All-set IsOfSixteenths c.loop-x.shares c.loop-x.x c.share_of.result
      c.share_of.ensures.sixteenths c.loop-x.invariant.sixteenths;
  long = search rules;
}
