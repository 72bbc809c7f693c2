use Rattle.std.proofs.Common.{◌<◌, refl, arith, ◌∙◌}
use Rattle.std.proofs.lemmas.List.{length-set}
use Rattle.line_floors.proofs.GatherSteps.{sums_none, sums_more_at, all_within_none, all_within_set}
use Rattle.line_floors.proofs.part_sums_of.Goals as goal

pub loop-p-init : goal.loop-p-init
loop-p-init g c = record {
  all = refl;
  within = all_within_none c.new-sums.result c.new-sums.ensures;
  are = sums_none c.flavour-flavour.result c.places-places.result.now c.args.parts.now
      c.new-sums.result c.new-sums.ensures;
}

pub loop-p-preserved : goal.loop-p-preserved
loop-p-preserved g c =
    let few : c.from.result < 4 =
    rw c.from.ensures (c.requires.parts c.loop-p.p
    (rw c.places-places.ensures.count at c.loop-p-test.true)) in
    record {
      all = length-set c.loop-p.sums c.from.result c.add_place.new.sums ∙ c.loop-p.invariant.all;
      within = all_within_set c.loop-p.p c.from.result c.loop-p.sums c.add_place.new.sums
          c.loop-p.invariant.within
          (c.add_place.ensures.within c.loop-p.p
          (c.loop-p.invariant.within c.from.result _
          (omega (arith, few, c.loop-p.invariant.all))));
      are = sums_more_at c.flavour-flavour.result c.places-places.result.now c.args.parts.now
          c.loop-p.p c.from.result c.loop-p.sums c.add_place.new.sums
          c.loop-p.invariant.all few c.from.ensures c.add_place.ensures.exact
          c.loop-p.invariant.are;
    }
