use Rattle.std.proofs.Common.{◌∙◌, ◌+◌, ◌++◌, ap, arith, rules, append_assoc}
use Rattle.tex_shelf.proofs.TakingLemmas.{front_on, front_short}
use Rattle.tex_shelf.proofs.growing.take_growing.Goals as goal

pub returns-then-taken-step-clause-taken : goal.returns-then-taken-step-clause-taken
returns-then-taken-step-clause-taken g c =
    let before = c.loop-done.invariant.taken in
    let more = c.in_ok-taken.ensures.taken in (
      before.0 ++ more.0,
      front_short c.args.wanted c.loop-done.done c.min-step.result c.in_ok-taken.taken before.0
          more.0 _ _ _ before.1 more.1 c.if-taken-step.true (omega arith),
      more.2 ∙ ap (λ xs. xs ++ more.0) before.2
          ∙ append_assoc c.args.bytes.now.items before.0 more.0,
    )

pub loop-done-preserved : goal.loop-done-preserved
loop-done-preserved g c =
    let before = c.loop-done.invariant.taken in
    let more = c.in_ok-taken.ensures.taken in
    record {
      within = omega arith;
      taken = (
        before.0 ++ more.0,
        front_on c.loop-done.done c.min-step.result c.in_ok-taken.taken
            (c.loop-done.done + c.min-step.result) before.0 more.0 _ _ _ before.1 more.1
            (omega (arith, more.1.most)),
        more.2 ∙ ap (λ xs. xs ++ more.0) before.2
            ∙ append_assoc c.args.bytes.now.items before.0 more.0,
      );
      told = c.take_step.ensures.told ∙ c.loop-done.invariant.told;
      rest = search rules;
    }
