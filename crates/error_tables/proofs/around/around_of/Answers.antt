use Rattle.error_tables.proofs.around.around_of.Goals as goal

pub loop-p-init : goal.loop-p-init
loop-p-init g c = record {
  first_is = c.no_corner-first.ensures g.row.W g.row.H 0 c.args.mode.now c.args.places.now;
  second_is = c.no_corner-second.ensures g.row.W g.row.H 1 c.args.mode.now c.args.places.now;
  third_is = c.no_corner-third.ensures g.row.W g.row.H 2 c.args.mode.now c.args.places.now;
  fourth_is = c.no_corner-fourth.ensures g.row.W g.row.H 3 c.args.mode.now c.args.places.now;
}

pub loop-p-preserved : goal.loop-p-preserved
loop-p-preserved g c =
    let is = c.loop-p.invariant in
    let exact = c.corners_at-corners.ensures.exact in
    let mode = c.args.mode.now in
    record {
      first_is = c.put_corner.ensures 0 mode (exact 0) is.first_is;
      second_is = c.put_corner-in-loop-p.ensures 1 mode (exact 1) is.second_is;
      third_is = c.put_corner-in-loop-p-2.ensures 2 mode (exact 2) is.third_is;
      fourth_is = c.put_corner-in-loop-p-3.ensures 3 mode (exact 3) is.fourth_is;
    }
