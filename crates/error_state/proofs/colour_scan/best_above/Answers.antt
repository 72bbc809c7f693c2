use Rattle.std.proofs.Common.{◌≡◌, ℕ, ◌+◌, ◌-◌, arith, inl, inr}
use Rattle.std.proofs.lemmas.Bool.{cases_lt, cases_eq}
use Rattle.error_tables.specs.State.{StateView, coloured_count}
use Rattle.colour_bounds.specs.PartScans.{state_of, integer_of}
use Rattle.colour_bounds.proofs.RankLaws.{few}
use Rattle.error_state.specs.declared.kinds.CodedKind.TheVariants.{Colour}
use Rattle.error_state.proofs.ScanLaws.{least-le}
use Rattle.error_state.proofs.WalkTrial.{other_at, more_steps, fewer_steps}
use Rattle.error_state.proofs.colour_scan.best_above.Goals as goal

pub better_at-better-requires-clause-other : goal.better_at-better-requires-clause-other
better_at-better-requires-clause-other g c =
    rw c.integer_on-value.ensures.exact
    (other_at g.row.W g.row.H c.args.scan.now c.args.place c.requires.scan c.requires.place
    c.args.walk.now c.requires.walk c.loop-above.above (omega arith)
    (λ same. absurd (omega (arith, same))))

pub returns-then-ends_at-clause-least : goal.returns-then-ends_at-clause-least
returns-then-ends_at-clause-least g c = λ at high inside.
    let view : StateView = state_of c.args.scan.now in
    let i : ℕ = integer_of c.args.scan.now c.args.place in
    elim (cases_lt at c.loop-above.above) [
      | inl before ↦ c.loop-above.invariant.least at high before
      | inr behind ↦
          let no = least-le g.row.W g.row.H view Colour i c.loop-above.best
          c.loop-above.invariant.better in
          let ends = c.ends_at.ensures c.if-ends_at.true c.loop-above.above
          c.integer_on-value.ensures.exact in
          let stop = c.requires.walk.on.above c.loop-above.above at (omega arith) behind inside ends
          in
          omega (arith, no, stop)
    ]

pub returns-then-ends_at-clause-steps : goal.returns-then-ends_at-clause-steps
returns-then-ends_at-clause-steps g c =
    fewer_steps (c.loop-above.above - (c.args.walk.now.start + 1))
    (c.args.walk.now.order.count - (c.args.walk.now.start + 1))
    (coloured_count g.row.W g.row.H (state_of c.args.scan.now)
    (integer_of c.args.scan.now c.args.place)) _ _ (omega arith) c.loop-above.invariant.steps

pub loop-above-preserved : goal.loop-above-preserved
loop-above-preserved g c =
    let view : StateView = state_of c.args.scan.now in
    let i : ℕ = integer_of c.args.scan.now c.args.place in
    record {
      better = c.better_at-better.ensures.better;
      least = λ at high below.
          elim (cases_eq at c.loop-above.above) [
            | inl same ↦
                rw same (rw c.integer_on-value.ensures.exact at c.better_at-better.ensures.here)
            | inr other ↦
                let old = c.loop-above.invariant.least at high (omega (arith, below, other)) in
                let falls = c.better_at-better.ensures.falls in
                omega (arith, old, falls)
          ];
      steps =
          let one : c.loop-above.above + 1 - (c.args.walk.now.start + 1)
          ≡ c.loop-above.above - (c.args.walk.now.start + 1) + 1 = omega arith in
          rw one (more_steps (c.loop-above.above - (c.args.walk.now.start + 1))
          (coloured_count g.row.W g.row.H view i) _ _ _ c.loop-above.invariant.steps
          c.better_at-better.ensures.steps);
    }

pub returns-clause-least : goal.returns-clause-least
returns-clause-least g c = λ at high inside.
    let last : c.loop-above.above ≡ c.args.walk.now.order.count =
    grind (arith, c.requires.walk.on.starts.within) in
    c.loop-above.invariant.least at high (rw last inside)

pub returns-clause-steps : goal.returns-clause-steps
returns-clause-steps g c =
    let last : c.loop-above.above ≡ c.args.walk.now.order.count =
    grind (arith, c.requires.walk.on.starts.within) in
    rw last at c.loop-above.invariant.steps

pub overflow_step-above : goal.overflow_step-above
overflow_step-above g c =
    omega (
      arith,
      c.requires.walk.on.starts.within,
      c.requires.walk.on.orders.fits,
      few c.args.scan.now.tables.now.level,
    )
