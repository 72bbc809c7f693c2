use Rattle.std.proofs.Common.{◌≡◌, ◌+◌, ℕ, sym, ◌∙◌}
use Rattle.texel_error.specs.Counting.{TakesAtMost}
use Rattle.astc_model.specs.ColourValues.{colour_value}
use Rattle.error_tables.specs.Changed.{HasColour}
use Rattle.error_tables.specs.State.{coloured_count}
use Rattle.error_tables.proofs.ColourTrial.{part_size}
use Rattle.error_tables.proofs.UnderLaws.{none_under, some_under}
use Rattle.colour_bounds.specs.Bounds.{single_channel_of}
use Rattle.colour_bounds.specs.PartScans.{integer_of, state_of}
use Rattle.colour_bounds.proofs.PartScanLaws.{has_integer}
use Rattle.colour_bounds.proofs.WalkLaws.{walk_exchange}
use Rattle.error_state.specs.Scans.{error_with_value}
use Rattle.error_state.specs.declared.kinds.CodedKind.TheVariants.{Colour}
use Rattle.error_state.proofs.ScanLaws.{takes_by_integer}
use Rattle.error_state.proofs.colour_scan.own_tried.Given.{Over}
use Rattle.error_state.proofs.colour_scan.own_tried.Goals as goal
use Rattle.error_state.proofs.colour_scan.own_tried.Goals.{After-walk_error_under}

module _ (g : Over) (c : After-walk_error_under g) where
  abbrev error : ℕ → ℕ
  error value = error_with_value g.row.W g.row.H (state_of c.args.scan.now) Colour
      (integer_of c.args.scan.now c.args.place) value

  abbrev single : ℕ → ℕ
  single value = single_channel_of c.args.scan.now c.args.walk.now.trend c.args.place
      (colour_value c.args.scan.now.tables.now.level value)

  steps : TakesAtMost c.args.steps.now c.tick_each.new.steps
      (coloured_count g.row.W g.row.H (state_of c.args.scan.now)
      (integer_of c.args.scan.now c.args.place))
  steps =
      let has : HasColour c.args.scan.now.tables.now.block c.args.scan.now.part
      (integer_of c.args.scan.now c.args.place) =
      has_integer g.row.W g.row.H c.args.scan.now c.args.place c.requires.scan c.requires.place
      in
      takes_by_integer g.row.W g.row.H (state_of c.args.scan.now) c.args.scan.now.part
      (integer_of c.args.scan.now c.args.place) _ _ has
      (rw (part_size g.row.W g.row.H c.args.scan.now.tables.now c.args.scan.now.part
      c.args.scan.now.reach.now c.requires.scan.reached) at c.tick_each.ensures)

pub returns-in-None-clause-exact : goal.returns-in-None-clause-exact
returns-in-None-clause-exact g c = λ value range in_trend ends_are.
    let after : After-walk_error_under g =
    (goal.at.returns-in-None-clause-exact g c).After-walk_error_under in
    let sum : error g after value + c.args.walk.now.kept ≡ c.args.scan.now.tables.now.total + single
    g after value =
    walk_exchange g.row.W g.row.H c.args.scan.now c.args.place c.args.walk.now value
    c.requires.scan c.requires.place c.requires.walk range in_trend
    in
    none_under c.args.least c.args.walk.now.kept c.args.scan.now.tables.now.total
    (single g after value) c.saturating_sub-bar.result (error g after value)
    c.saturating_sub-bar.ensures sum
    (sym c.in-None.is ∙ rw ends_are at c.walk_error_under.ensures.exact)

pub returns-in-None-clause-steps : goal.returns-in-None-clause-steps
returns-in-None-clause-steps g c =
    steps g (goal.at.returns-in-None-clause-steps g c).After-walk_error_under

pub returns-in-Some-clause-exact : goal.returns-in-Some-clause-exact
returns-in-Some-clause-exact g c = λ value range in_trend ends_are.
    let after : After-walk_error_under g =
    (goal.at.returns-in-Some-clause-exact g c).After-walk_error_under in
    let sum : error g after value + c.args.walk.now.kept ≡ c.args.scan.now.tables.now.total + single
    g after value =
    walk_exchange g.row.W g.row.H c.args.scan.now c.args.place c.args.walk.now value
    c.requires.scan c.requires.place c.requires.walk range in_trend
    in
    rw c.saturating_sub.ensures
    (some_under c.args.least c.args.walk.now.kept c.args.scan.now.tables.now.total
    (single g after value) c.saturating_sub-bar.result (error g after value)
    c.saturating_sub-bar.ensures sum c.in-Some.moved
    (sym c.in-Some.is ∙ rw ends_are at c.walk_error_under.ensures.exact))

pub returns-in-Some-clause-steps : goal.returns-in-Some-clause-steps
returns-in-Some-clause-steps g c =
    steps g (goal.at.returns-in-Some-clause-steps g c).After-walk_error_under
