use Rattle.std.proofs.Common.{◌≡◌, ◌+◌, ℕ, refl, ◌∙◌}
use Rattle.std.specs.Prelude.{sum_by}
use Rattle.astc_model.specs.CodedTexels.{part_colours}
use Rattle.astc_model.specs.declared.block.Block.TheVariants.{Coded}
use Rattle.error_tables.specs.Changed.{with_colour, HasColour}
use Rattle.error_tables.specs.State.{error_in}
use Rattle.error_tables.specs.Trials.{coloured}
use Rattle.colour_bounds.specs.PartScans.{state_of}
use Rattle.error_tables.proofs.ColourTrial.{colour_result, part_size}
use Rattle.colour_bounds.specs.PartScans.{integer_of}
use Rattle.error_state.specs.Scans.{least_of}
use Rattle.error_state.proofs.ScanLaws.{takes_by_integer}
use Rattle.colour_bounds.proofs.PartScanLaws.{has_integer, colour_ends-is}
use Rattle.error_state.proofs.colour_scan.colour_tried.Goals as goal

pub returns-clause-exact : goal.returns-clause-exact
returns-clause-exact g c =
    let i : ℕ = integer_of c.args.scan.now c.args.place in
    let e : ℕ = error_in g.row.W g.row.H (state_of c.args.scan.now)
    (Coded (with_colour c.args.scan.now.tables.now.block i c.args.value)) in
    let n : ℕ = sum_by (coloured c.args.scan.now.tables.now c.ends_with-ends.result)
    c.args.scan.now.reach.now in
    let has : HasColour c.args.scan.now.tables.now.block c.args.scan.now.part i =
    has_integer g.row.W g.row.H c.args.scan.now c.args.place c.requires.scan c.requires.place
    in
    let ends : c.ends_with-ends.result
    ≡ part_colours (with_colour c.args.scan.now.tables.now.block i c.args.value)
    c.args.scan.now.tables.now.level c.args.scan.now.part =
    rw c.value_of.ensures at c.ends_with-ends.ensures
    ∙ colour_ends-is c.args.scan.now.tables.now.block c.args.scan.now.tables.now.level
    c.args.scan.now.part c.args.place c.args.value c.args.scan.now.cem _
    c.requires.scan.mode_is c.requires.place c.requires.scan.values_are
    in
    let exchange : e + c.args.scan.now.floor.taken ≡ c.args.scan.now.tables.now.total + n =
    colour_result g.row.W g.row.H c.args.scan.now.tables.now c.requires.scan.kept i c.args.value
    c.args.scan.now.part has c.requires.range c.args.scan.now.reach.now
    c.ends_with-ends.result _ _ c.requires.scan.reached ends c.requires.scan.floored.taken refl
    in
    c.ends_tried.ensures.exact (least_of c.args.scan.now.tables.now.total c.args.limit.now.best) e
    c.requires.limit.bar_is exchange

pub returns-clause-steps : goal.returns-clause-steps
returns-clause-steps g c =
    let i : ℕ = integer_of c.args.scan.now c.args.place in
    let has : HasColour c.args.scan.now.tables.now.block c.args.scan.now.part i =
    has_integer g.row.W g.row.H c.args.scan.now c.args.place c.requires.scan c.requires.place
    in
    takes_by_integer g.row.W g.row.H (state_of c.args.scan.now) c.args.scan.now.part i _ _ has
    (rw (part_size g.row.W g.row.H c.args.scan.now.tables.now c.args.scan.now.part
    c.args.scan.now.reach.now c.requires.scan.reached) at c.ends_tried.ensures.steps)
