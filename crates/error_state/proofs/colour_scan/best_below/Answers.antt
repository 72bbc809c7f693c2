use Rattle.std.proofs.Common.{◌≡◌, ℕ, ◌-◌, arith, inl, inr}
use Rattle.std.proofs.lemmas.Bool.{cases_lt, cases_eq}
use Rattle.error_tables.specs.State.{StateView, coloured_count}
use Rattle.colour_bounds.specs.PartScans.{state_of, integer_of}
use Rattle.error_state.specs.declared.kinds.CodedKind.TheVariants.{Colour}
use Rattle.error_state.proofs.ScanLaws.{least-le}
use Rattle.error_state.proofs.WalkTrial.{other_at, more_steps, fewer_steps}
use Rattle.error_state.proofs.colour_scan.best_below.Goals as goal

pub integer_on-value-requires-clause-at : goal.integer_on-value-requires-clause-at
integer_on-value-requires-clause-at g c = omega (arith, c.requires.walk.on.starts.within)

pub better_at-better-requires-clause-other : goal.better_at-better-requires-clause-other
better_at-better-requires-clause-other g c =
    rw c.integer_on-value.ensures.exact
    (other_at g.row.W g.row.H c.args.scan.now c.args.place c.requires.scan c.requires.place
    c.args.walk.now c.requires.walk (c.args.walk.now.start - 1 - c.loop-step.step)
    (omega (arith, c.requires.walk.on.starts.within)) (λ same. absurd (omega (arith, same))))

pub returns-then-ends_at-clause-least : goal.returns-then-ends_at-clause-least
returns-then-ends_at-clause-least g c = λ at low.
    let view : StateView = state_of c.args.scan.now in
    let i : ℕ = integer_of c.args.scan.now c.args.place in
    let here : ℕ = c.args.walk.now.start - 1 - c.loop-step.step in
    elim (cases_lt here at) [
      | inl behind ↦ c.loop-step.invariant.least at low (omega (arith, behind))
      | inr before ↦
          let no = least-le g.row.W g.row.H view Colour i c.loop-step.best
          c.loop-step.invariant.better in
          let ends = c.ends_at.ensures c.if-ends_at.true here c.integer_on-value.ensures.exact in
          let stop = c.requires.walk.on.below here at (omega arith) before ends in
          omega (arith, no, stop)
    ]

pub returns-then-ends_at-clause-steps : goal.returns-then-ends_at-clause-steps
returns-then-ends_at-clause-steps g c =
    fewer_steps c.loop-step.step c.args.walk.now.start
    (coloured_count g.row.W g.row.H (state_of c.args.scan.now)
    (integer_of c.args.scan.now c.args.place)) _ _ (omega arith) c.loop-step.invariant.steps

pub loop-step-preserved : goal.loop-step-preserved
loop-step-preserved g c =
    let view : StateView = state_of c.args.scan.now in
    let i : ℕ = integer_of c.args.scan.now c.args.place in
    let here : ℕ = c.args.walk.now.start - 1 - c.loop-step.step in
    let falls = c.better_at-better.ensures.falls in
    record {
      better = c.better_at-better.ensures.better;
      least = λ at low above.
          elim (cases_eq at here) [
            | inl same ↦
                rw same (rw c.integer_on-value.ensures.exact at c.better_at-better.ensures.here)
            | inr other ↦
                let old = c.loop-step.invariant.least at low (omega (arith, above, other, low)) in
                omega (arith, old, falls)
          ];
      falls = omega (arith, falls, c.loop-step.invariant.falls);
      steps = more_steps c.loop-step.step (coloured_count g.row.W g.row.H view i) _ _ _
          c.loop-step.invariant.steps c.better_at-better.ensures.steps;
    }

pub returns-clause-least : goal.returns-clause-least
returns-clause-least g c = λ at low. c.loop-step.invariant.least at low (omega arith)

pub returns-clause-steps : goal.returns-clause-steps
returns-clause-steps g c =
    let last : c.loop-step.step ≡ c.args.walk.now.start = omega arith in
    rw last at c.loop-step.invariant.steps
