use Rattle.std.proofs.Common.{arith}
use Rattle.descent.proofs.CircleLaws.{same_moved, no_more, one_more, no_colour_better, no_weight_better}
use Rattle.descent.proofs.circle.descend.Goals as goal

pub places-preserved : goal.places-preserved
places-preserved g c =
    let is = c.places.invariant in
    let inside = is.are_still.inside (omega (arith, c.places-test.true)) in
    let moves = c.settle_place-moved.ensures.moves in
    record {
      same = same_moved g.row.W g.row.H c.args.state.now c.places.state _
          c.settle_place-moved.result moves is.same;
      falls = omega (
        arith,
        is.falls,
        no_more g.row.W g.row.H c.places.state _
            c.settle_place-moved.result moves,
      );
      are_still = one_more g.row.W g.row.H c.places.state _ _ c.places.place c.places.still _
          is.are_still inside (omega (arith, c.places-test.true))
          c.next_place-place.ensures.within c.next_place-place.ensures.around
          c.settle_place-moved.ensures.least c.settle_place-moved.result _ moves
          c.still_after-still.ensures;
      few = is.few;
      rises = omega (arith, is.rises, c.settle_place-moved.ensures.never_falls);
    }

pub returns-clause-descends : goal.returns-clause-descends
returns-clause-descends g c =
    let is = c.places.invariant in
    record {
      same = is.same;
      falls = is.falls;
      colours = no_colour_better g.row.W g.row.H c.places.state _ c.places.place c.places.still
          is.are_still (omega (arith, c.places-test.false));
      weights = no_weight_better g.row.W g.row.H c.places.state _ c.places.place c.places.still
          is.are_still (omega (arith, c.places-test.false));
    }
