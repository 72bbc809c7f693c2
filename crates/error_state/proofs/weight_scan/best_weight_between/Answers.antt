use Rattle.std.proofs.Common.{◌≡◌, ◌≢◌, ◌<◌, ℕ, Option, arith, inl, inr}
use Rattle.std.proofs.lemmas.Bool.{cases_eq}
use Rattle.texel_error.specs.Limited.{under}
use Rattle.error_tables.specs.State.{StateView, view_of, touched_count}
use Rattle.error_tables.proofs.ChangedLaws.{weight_range-is}
use Rattle.error_state.specs.Scans.{range_of, value_at, error_now, error_with_value, least_of}
use Rattle.error_state.specs.declared.kinds.CodedKind.TheVariants.{Weight}
use Rattle.error_state.specs.declared.scans.Better.{Better}
use Rattle.error_state.proofs.ScanLaws.{still_better, still_falls, least_here, scan_steps}
use Rattle.error_state.proofs.weight_scan.best_weight_between.Goals as goal

pub loop-value-preserved : goal.loop-value-preserved
loop-value-preserved g c =
    let view : StateView = view_of c.args.scan.now.tables.now in
    let i : ℕ = c.args.scan.now.i in
    let best : Option Better = c.loop-value.best in
    let value : ℕ = c.loop-value.value in
    let tried : Option ℕ = c.weight_tried-tried.result in
    let within : value < range_of view Weight =
    rw (weight_range-is g.row.W g.row.H _ _ _ c.requires.scan.kept.is_shaped)
    (omega (arith, c.requires.range, c.loop-value-test.true))
    in
    let other : value ≢ value_at view Weight i =
    c.requires.others value (omega arith) c.loop-value-test.true in
    let exact : tried ≡ under (least_of (error_now g.row.W g.row.H view) best)
    (error_with_value g.row.W g.row.H view Weight i value) =
    rw (c.least_of-limit.ensures, c.requires.scan.kept.total_is)
    at c.weight_tried-tried.ensures.exact
    in
    let fewer = still_falls g.row.W g.row.H view Weight i value best within other
    c.loop-value.invariant.better tried exact in
    let here = least_here g.row.W g.row.H view Weight i value best within other
    c.loop-value.invariant.better tried exact in
    record {
      better = rw c.better_of-best.ensures
          (still_better g.row.W g.row.H view Weight i value best within other
          c.loop-value.invariant.better tried exact);
      least = rw c.better_of-best.ensures (λ k low below. elim (cases_eq k value) [
        | inl same ↦ rw same here
        | inr before ↦ omega (arith, c.loop-value.invariant.least k low (omega arith), fewer)
      ]);
      falls = rw c.better_of-best.ensures (omega (arith, c.loop-value.invariant.falls, fewer));
      steps = scan_steps c.args.from value (touched_count g.row.W g.row.H view i) _ _ _
          (omega arith) c.loop-value.invariant.steps
          (rw c.requires.scan.kept.is_shaped.legal.mode_known c.weight_tried-tried.ensures.steps);
    }

pub returns-clause-steps : goal.returns-clause-steps
returns-clause-steps g c =
    let last : c.loop-value.value ≡ c.args.to =
    omega (arith, c.loop-value-test.false, c.loop-value.auto.value-end) in
    rw last at c.loop-value.invariant.steps
