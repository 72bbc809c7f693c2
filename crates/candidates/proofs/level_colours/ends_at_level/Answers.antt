use Rattle.std.proofs.Common.{[], rules, arith, ap, ◌∙◌}
use Rattle.std.proofs.lemmas.List.{get_or_default}
use Rattle.candidates.proofs.LevelLaws.{level_ends_more, level_ends_all}
use Rattle.candidates.proofs.level_colours.ends_at_level.Goals as goal

pub loop-values-preserved : goal.loop-values-preserved
loop-values-preserved c = record {
  ends = λ bounds are.
      level_ends_more c.args.recipe.now c.args.level bounds c.args.ideals.now are
      c.loop-values.values-index c.loop-values-test.true c.as_slice.result.now
      c.ends_near.result c.loop-values.ends.items _
      (c.as_slice.ensures.value
      ∙ ap (λ one. one.items) (c.values-item.is
      ∙ get_or_default c.args.ideals.now c.loop-values.values-index c.values-item.result
      (record { items = [] }) c.loop-values-test.true)) c.ends_near.ensures
      c.push.ensures.items (c.loop-values.invariant.ends bounds are);
  count = search rules;
}

pub returns-clause-ends : goal.returns-clause-ends
returns-clause-ends c = λ bounds are.
    level_ends_all c.args.recipe.now c.args.level bounds c.args.ideals.now are
    c.loop-values.values-index c.loop-values-test.false (omega arith) c.loop-values.ends.items
    (c.loop-values.invariant.ends bounds are)
