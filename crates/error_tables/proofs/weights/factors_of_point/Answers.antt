use Rattle.std.proofs.Common.{◌/◌, ◌%◌, rules, arith}
use Rattle.astc_model.proofs.ListLaws.{fill_step}
use Rattle.weight_infill.specs.Touched.{factor_of}
use Rattle.error_tables.specs.Arounds.{factor_inside}
use Rattle.error_tables.proofs.AroundLaws.{factor_is}
use Rattle.error_tables.proofs.weights.factors_of_point.Goals as goal

pub loop-p-preserved : goal.loop-p-preserved
loop-p-preserved g c =
    let law : _ = factor_is g.row.W g.row.H c.args.tables.now.mode c.args.tables.now.places.now
    c.args.tables.now.around c.args.point c.loop-p.p c.requires.kept.around_are
    c.loop-p-test.true in
    record {
      done = fill_step (λ k. factor_inside c.args.tables.now.places.now k
          (factor_of g.row.W g.row.H c.args.tables.now.mode.across c.args.tables.now.mode.down
          c.args.point (k % g.row.W) (k / g.row.W)))
          c.loop-p.factors c.loop-p.p 0 _
          (omega (arith, c.loop-p.invariant.long, c.loop-p-test.true, c.requires.few))
          (omega (
            arith,
            law,
            c.own_factor.ensures.own,
            c.own_factor-in-loop-p.ensures.own,
            c.own_factor-in-loop-p-2.ensures.own,
            c.own_factor-in-loop-p-3.ensures.own,
          ))
          c.loop-p.invariant.done;
      long = search rules;
    }
