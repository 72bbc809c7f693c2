use Rattle.std.proofs.Common.{◌+◌, [], sym, arith}
use Rattle.std.proofs.lemmas.List.{get_or_default}
use Rattle.astc_model.specs.Candidates.{no_ends}
use Rattle.astc_model.proofs.SumLaws.{sum_to-more}
use Rattle.line_floors.specs.Floors.{part_distance}
use Rattle.line_floors.proofs.distances_until.Goals as goal

pub returns-then-distances-enough : goal.returns-then-distances-enough
unfolding part_distance
returns-then-distances-enough c =
    let own : _ = get_or_default c.args.ends.now c.loop-part.part
    ([], []) no_ends c.loop-part-test.true in
    record {
      partitions = c.loop-part.part + 1;
      within = omega (arith, c.loop-part-test.true);
      are = rw (
        c.loop-part.invariant.exact,
        c.distance-distances.ensures.exact,
        c.new.ensures.exact,
        own,
      )
          (sym (sum_to-more (part_distance c.args.flavour c.args.gains.now c.args.sums.now
          c.args.ends.now) c.loop-part.part));
      all = λ few. absurd (omega (arith, few, c.if-distances-enough.true));
    }

pub loop-part-preserved : goal.loop-part-preserved
unfolding part_distance
loop-part-preserved c =
    let own : _ = get_or_default c.args.ends.now c.loop-part.part
    ([], []) no_ends c.loop-part-test.true in
    record {
      exact = rw (
        c.loop-part.invariant.exact,
        c.distance-distances.ensures.exact,
        c.new.ensures.exact,
        own,
      )
          (sym (sum_to-more (part_distance c.args.flavour c.args.gains.now c.args.sums.now
          c.args.ends.now) c.loop-part.part));
      small = omega (arith, c.loop-part.invariant.small, c.distance-distances.ensures.small);
    }
