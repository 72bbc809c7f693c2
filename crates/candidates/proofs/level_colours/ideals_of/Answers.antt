use Rattle.std.proofs.Common.{◌≡◌, length}
use Rattle.std.proofs.lemmas.List.Elements.{All-push}
use Rattle.astc_model.specs.Endpoints.{endpoint_integers}
use Rattle.candidates.proofs.LevelLaws.{ideals_more}
use Rattle.candidates.proofs.level_colours.ideals_of.Goals as goal

pub loop-part-preserved : goal.loop-part-preserved
loop-part-preserved c = record {
  are = ideals_more c.args.recipe.now c.args.bounds.now c.loop-part.part c.from.result
      c.loop-part.ideals.items _ c.ideal.result c.push.ensures.items c.loop-part.invariant.are
      c.from.ensures c.ideal.ensures.values;
  counts = rw c.push.ensures.items
      (All-push (λ values. length values.items ≡ endpoint_integers c.args.recipe.now.cem)
      c.loop-part.ideals.items c.ideal.result c.loop-part.invariant.counts
      c.ideal.ensures.count);
}
