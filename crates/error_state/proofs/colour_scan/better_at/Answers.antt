use Rattle.std.proofs.Common.{◌≤◌, ◌+◌, ◌<◌, ℕ}
use Rattle.error_tables.specs.State.{StateView}
use Rattle.error_tables.proofs.ChangedLaws.{colour_range-is}
use Rattle.colour_bounds.specs.PartScans.{state_of, integer_of}
use Rattle.error_state.specs.Scans.{range_of, error_now, least_of}
use Rattle.error_state.specs.declared.kinds.CodedKind.TheVariants.{Colour}
use Rattle.error_state.proofs.WalkTrial.{still_better, still_falls, least_here, less_errors}
use Rattle.error_state.proofs.colour_scan.better_at.Given.{Over}
use Rattle.error_state.proofs.colour_scan.better_at.Goals as goal
use Rattle.error_state.proofs.colour_scan.better_at.Goals.{After-walk_tried-tried}

pub least_for-least-requires-clause-best : goal.least_for-least-requires-clause-best
least_for-least-requires-clause-best g c =
    rw c.requires.scan.kept.total_is
    (less_errors g.row.W g.row.H (state_of c.args.scan.now) Colour
    (integer_of c.args.scan.now c.args.place) c.args.best c.requires.best)

module _ (g : Over) (c : After-walk_tried-tried g) where
  abbrev view : StateView
  view = state_of c.args.scan.now

  abbrev i : ℕ
  i = integer_of c.args.scan.now c.args.place

  range : c.args.value < range_of view Colour
  range = rw (colour_range-is g.row.W g.row.H _ _ _ c.requires.scan.kept.is_shaped) c.requires.range

  tie : c.least_for-least.result ≤ least_of (error_now g.row.W g.row.H view) c.args.best + 1
  tie = rw c.requires.scan.kept.total_is at c.least_for-least.ensures.tie

  fits : c.least_for-least.result ≤ error_now g.row.W g.row.H view
  fits = rw c.requires.scan.kept.total_is at c.least_for-least.ensures.most

  low : least_of (error_now g.row.W g.row.H view) c.args.best ≤ c.least_for-least.result
  low = rw c.requires.scan.kept.total_is at c.least_for-least.ensures.least

pub returns-clause-better : goal.returns-clause-better
returns-clause-better g c =
    let a : After-walk_tried-tried g = (goal.at.returns-clause-better g c).After-walk_tried-tried in
    rw c.better_of.ensures
    (still_better g.row.W g.row.H (view g a) Colour (i g a) c.args.value c.args.best
    c.least_for-least.result (range g a) c.requires.other c.requires.best (tie g a) (fits g a)
    c.walk_tried-tried.result c.walk_tried-tried.ensures.exact)

pub returns-clause-falls : goal.returns-clause-falls
returns-clause-falls g c =
    let a : After-walk_tried-tried g = (goal.at.returns-clause-falls g c).After-walk_tried-tried in
    rw c.better_of.ensures
    (still_falls g.row.W g.row.H (view g a) Colour (i g a) c.args.value c.args.best
    c.least_for-least.result (range g a) c.requires.other c.requires.best (tie g a) (fits g a)
    c.walk_tried-tried.result c.walk_tried-tried.ensures.exact)

pub returns-clause-here : goal.returns-clause-here
returns-clause-here g c =
    let a : After-walk_tried-tried g = (goal.at.returns-clause-here g c).After-walk_tried-tried in
    rw c.better_of.ensures
    (least_here g.row.W g.row.H (view g a) Colour (i g a) c.args.value c.args.best
    c.least_for-least.result (range g a) c.requires.other c.requires.best (tie g a) (fits g a)
    (low g a) c.walk_tried-tried.result c.walk_tried-tried.ensures.exact)
