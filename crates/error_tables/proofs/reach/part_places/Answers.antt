use Rattle.std.proofs.Common.{refl, ◌≡◌, ◌*◌, ◌<◌, ◌∙◌, sym, arith}
use Rattle.std.proofs.lemmas.Grind.{common_steps}
use Rattle.error_tables.specs.Reached.{is_part_inside}
use Rattle.error_tables.proofs.ReachLists.{part_none, part_taken, part_left}
use Rattle.error_tables.proofs.reach.part_places.Goals as goal
use Rattle.error_tables.proofs.reach.part_places.Goals.{then-is_own, else-is_own}

pub loop-p-init : goal.loop-p-init
loop-p-init g c = rw c.new-reach.ensures
    (record {
      reach = part_none g.row.W g.row.H c.args.block.now c.args.part c.args.places.now;
      few_reached = omega arith;
    })

pub loop-p-preserved : goal.loop-p-preserved
loop-p-preserved g c =
    let below : c.loop-p.p < g.row.W * g.row.H = rw (← c.requires.all) c.loop-p-test.true in
    let test : c.is_own.result
    ≡ is_part_inside g.row.W g.row.H c.args.block.now c.args.part c.args.places.now c.loop-p.p =
    c.is_own.ensures.same ∙ rw (c.requires.parts c.loop-p.p below) refl in
    elim c.if-is_own.branch [
      | then-is_own w ↦ rw (w.reach-is, w.push.ensures.items) (record {
        reach = part_taken g.row.W g.row.H c.args.block.now c.args.part c.args.places.now c.loop-p.p
            c.loop-p.reach.items c.loop-p.invariant.reach
            below (sym test ∙ w.if-is_own.true) (sym (c.requires.parts c.loop-p.p below)
            ∙ c.is_own.ensures.own w.if-is_own.true);
        few_reached = grind (arith, common_steps);
      })
      | else-is_own w ↦ rw w.reach-is (record {
        reach = part_left g.row.W g.row.H c.args.block.now c.args.part c.args.places.now c.loop-p.p
            c.loop-p.reach.items c.loop-p.invariant.reach (sym test ∙ w.if-is_own.false);
        few_reached = omega arith;
      })
    ]
