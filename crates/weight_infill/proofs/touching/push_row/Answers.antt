use Rattle.std.proofs.Common.{◌∙◌, append-nil, sym, arith}
use Rattle.std.proofs.lemmas.Grind.{common_steps}
use Rattle.weight_infill.proofs.TouchedLaws.{column_taken, column_left, row_touched-none, row_touched-apart}
use Rattle.weight_infill.proofs.touching.push_row.Goals as goal
use Rattle.weight_infill.proofs.touching.push_row.Goals.{then-is_over_0, else-is_over_0}

pub returns-then-is_apart-clause-row : goal.returns-then-is_apart-clause-row
returns-then-is_apart-clause-row g c =
    rw (c.is_apart.ensures c.if-is_apart.true, row_touched-apart c.args.across.now c.args.y g.row.W)
    (sym (append-nil c.args.touched.now.items))

pub loop-x-init : goal.loop-x-init
loop-x-init g c = record {
  row = rw (row_touched-none c.args.across.now c.args.down c.args.y)
      (sym (append-nil c.args.touched.now.items));
  few = omega arith;
}

pub loop-x-preserved : goal.loop-x-preserved
loop-x-preserved g c =
    elim c.if-is_over_0.branch [
      | then-is_over_0 w ↦ rw (w.touched-is, w.push.ensures.items) (record {
        row = column_taken c.args.across.now c.args.down c.args.y c.loop-x.x
            c.args.touched.now.items c.loop-x.touched.items c.loop-x.invariant.row
            (sym c.is_over_0.ensures ∙ w.if-is_over_0.true);
        few = grind (arith, common_steps);
      })
      | else-is_over_0 w ↦ rw w.touched-is (record {
        row = column_left c.args.across.now c.args.down c.args.y c.loop-x.x c.args.touched.now.items
            c.loop-x.touched.items c.loop-x.invariant.row
            (sym c.is_over_0.ensures ∙ w.if-is_over_0.false);
        few = omega arith;
      })
    ]
