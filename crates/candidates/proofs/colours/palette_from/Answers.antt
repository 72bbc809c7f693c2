use Rattle.std.proofs.Common.{◌≡◌, arith}
use Rattle.astc_model.specs.Endpoints.{endpoint_integers}
use Rattle.candidates.specs.Pieces.{integers_from, ends_of_part_from}
use Rattle.candidates.proofs.LoopLaws.{colours_more, length_more, ends_more}
use Rattle.candidates.proofs.PieceLaws.{integers_from-is, ends_of_part_from-is}
use Rattle.candidates.proofs.colours.palette_from.Goals as goal

pub loop-part-preserved : goal.loop-part-preserved
loop-part-preserved c =
    let k = c.loop-part.part in
    let r = c.args.recipe.now in
    let level = c.args.level in
    let bounds = c.args.bounds.now in
    let integers = c.integers_of-integers.result.items in
    let integers_are : integers ≡ integers_from r level bounds k =
    integers_from-is r level bounds k c.from.result integers c.from.ensures
    c.integers_of-integers.ensures.integers in
    record {
      colours = colours_more (integers_from r level bounds) k _ c.loop-part.colours.items
          c.as_slice.result.now integers c.append.ensures c.as_slice.ensures.value integers_are
          c.loop-part.invariant.colours;
      ends = ends_more (ends_of_part_from r level bounds) k _ c.loop-part.ends.items
          c.ends_of.result c.push.ensures.items
          (ends_of_part_from-is r level bounds k c.as_slice-in-loop-part.result.now integers
          c.ends_of.result c.as_slice-in-loop-part.ensures.value integers_are
          c.ends_of.ensures)
          c.loop-part.invariant.ends;
      integers = length_more k (endpoint_integers r.cem) _ c.loop-part.colours.items
          c.as_slice.result.now integers c.append.ensures c.as_slice.ensures.value
          c.integers_of-integers.ensures.count c.loop-part.invariant.integers;
      count = omega arith;
    }
