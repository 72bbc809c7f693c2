use Rattle.std.proofs.Common.{◌≡◌, ◌+◌, ◌-◌, ◌≤◌, ◌∙◌, ℕ, sym, arith}
use Rattle.texel_error.specs.Counting.{TakesAtMost}
use Rattle.texel_error.specs.Limited.{under}
use Rattle.texel_error.proofs.LimitLaws.{under-none}
use Rattle.astc_model.specs.ColourValues.{colour_value}
use Rattle.error_tables.specs.Changed.{HasColour}
use Rattle.error_tables.specs.State.{coloured_count}
use Rattle.error_tables.proofs.ColourTrial.{part_size}
use Rattle.error_tables.proofs.UnderLaws.{of_none, of_some}
use Rattle.colour_bounds.specs.PartScans.{integer_of}
use Rattle.colour_bounds.specs.Bounds.{single_channel_of}
use Rattle.colour_bounds.specs.PartScans.{state_of}
use Rattle.colour_bounds.specs.declared.one_channel.Trend.TheVariants.{Rising}
use Rattle.error_state.specs.Scans.{least_of, error_with_value}
use Rattle.error_state.specs.declared.kinds.CodedKind.TheVariants.{Colour}
use Rattle.colour_bounds.proofs.BoundTrial.{exchange}
use Rattle.colour_bounds.proofs.PartScanLaws.{has_integer}
use Rattle.error_state.proofs.ScanLaws.{takes_by_integer}
use Rattle.error_state.proofs.colour_scan.single_channel_tried.Given.{Over}
use Rattle.error_state.proofs.colour_scan.single_channel_tried.Goals as goal
use Rattle.error_state.proofs.colour_scan.single_channel_tried.Goals.{After-single_channel_error_under}

-- a channel that reaches its bar has the whole error reach the limit
reached : (least error total taken kept single limit_bar bar : ℕ) → limit_bar
    ≡ least + taken - total → bar ≡ limit_bar + kept - taken → kept ≤ taken
    → error + kept ≡ total + single → bar ≤ single → least ≤ error
reached least error total taken kept single limit_bar bar limit_is bar_is within whole over =
    omega (arith, limit_is, bar_is, within, whole, over)

module _ (g : Over) (c : After-single_channel_error_under g) where
  abbrev i : ℕ
  i = integer_of c.args.scan.now c.args.place

  abbrev error : ℕ
  error = error_with_value g.row.W g.row.H (state_of c.args.scan.now) Colour i c.args.value

  abbrev single : ℕ
  single = single_channel_of c.args.scan.now Rising c.args.place
      (colour_value c.args.scan.now.tables.now.level c.args.value)

  whole : error + c.args.kept ≡ c.args.scan.now.tables.now.total + single
  whole =
      let moves = c.requires.single.moves
      (colour_value c.args.scan.now.tables.now.level c.args.value) c.requires.rises in
      let all = exchange g.row.W g.row.H c.args.scan.now c.args.place c.args.value c.requires.scan
      c.requires.place c.requires.range in
      omega (arith, all, moves, c.requires.single.within)

  tried : c.single_channel_error_under.result ≡ under c.saturating_sub-bar.result single
  tried = rw c.value_of-byte.ensures at c.single_channel_error_under.ensures.exact

  steps : TakesAtMost c.args.steps.now c.tick_each.new.steps
      (coloured_count g.row.W g.row.H (state_of c.args.scan.now) i)
  steps =
      let has : HasColour c.args.scan.now.tables.now.block c.args.scan.now.part i =
      has_integer g.row.W g.row.H c.args.scan.now c.args.place c.requires.scan c.requires.place
      in
      takes_by_integer g.row.W g.row.H (state_of c.args.scan.now) c.args.scan.now.part i _ _ has
      (rw (part_size g.row.W g.row.H c.args.scan.now.tables.now c.args.scan.now.part
      c.args.scan.now.reach.now c.requires.scan.reached) at c.tick_each.ensures)

pub returns-in-None-clause-exact : goal.returns-in-None-clause-exact
returns-in-None-clause-exact g c =
    let after : After-single_channel_error_under g =
    (goal.at.returns-in-None-clause-exact g c).After-single_channel_error_under in
    let over : c.saturating_sub-bar.result ≤ single g after = of_none c.saturating_sub-bar.result
    (single g after) (sym c.in-None.is ∙ tried g after) in
    under-none (least_of c.args.scan.now.tables.now.total c.args.limit.now.best) (error g after)
    (reached _ _ c.args.scan.now.tables.now.total c.args.scan.now.floor.taken c.args.kept
    (single g after) c.args.limit.now.bar c.saturating_sub-bar.result
    c.requires.limit.bar_is c.saturating_sub-bar.ensures c.requires.single.within
    (whole g after) over)

pub returns-in-None-clause-steps : goal.returns-in-None-clause-steps
returns-in-None-clause-steps g c =
    steps g (goal.at.returns-in-None-clause-steps g c).After-single_channel_error_under

pub returns-in-Some-clause-exact : goal.returns-in-Some-clause-exact
returns-in-Some-clause-exact g c =
    let after : After-single_channel_error_under g =
    (goal.at.returns-in-Some-clause-exact g c).After-single_channel_error_under in
    let is = of_some c.saturating_sub-bar.result (single g after) c.in-Some.moved (sym c.in-Some.is
    ∙ tried g after) in
    c.told_under.ensures (least_of c.args.scan.now.tables.now.total c.args.limit.now.best)
    (error g after) c.requires.limit.bar_is
    (omega (arith, whole g after, is.1, c.requires.single.within))

pub returns-in-Some-clause-steps : goal.returns-in-Some-clause-steps
returns-in-Some-clause-steps g c =
    steps g (goal.at.returns-in-Some-clause-steps g c).After-single_channel_error_under
