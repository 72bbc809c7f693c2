use Rattle.std.proofs.Common.{◌≡◌, ◌+◌, ℕ, suc, refl, ◌∙◌, arith}
use Rattle.std.specs.Prelude.{sum_by}
use Rattle.astc_model.specs.PairChanges.{with_pair, pair_place}
use Rattle.astc_model.specs.CodedTexels.{part_colours}
use Rattle.error_tables.specs.State.{error_in}
use Rattle.error_tables.specs.Trials.{coloured}
use Rattle.error_tables.specs.Changed.{with_colour}
use Rattle.error_tables.proofs.PairTrial.{pair_result, pair_ends-is}
use Rattle.colour_bounds.specs.PartScans.{state_of}
use Rattle.error_state.proofs.pairs.pair_tried.Goals as goal

pub returns-clause-exact : goal.returns-clause-exact
returns-clause-exact g c =
    let e : ℕ = error_in g.row.W g.row.H (state_of c.args.scan.now)
    (with_pair c.args.scan.now.tables.now.block
    (record {
      part = c.args.scan.now.part;
      pair = c.args.pair;
      first = c.args.first;
      second = c.args.second;
    }))
    in
    let n : ℕ = sum_by (coloured c.args.scan.now.tables.now c.pair_ends-ends.result)
    c.args.scan.now.reach.now in
    let ends : c.pair_ends-ends.result
    ≡ part_colours (with_colour
    (with_colour c.args.scan.now.tables.now.block
    (pair_place c.args.scan.now.tables.now.block c.args.scan.now.part c.args.pair)
    c.args.first)
    (suc (pair_place c.args.scan.now.tables.now.block c.args.scan.now.part c.args.pair))
    c.args.second) c.args.scan.now.tables.now.level c.args.scan.now.part =
    rw (c.colour_value-first.ensures, c.colour_value-second.ensures) at c.pair_ends-ends.ensures
    ∙ pair_ends-is c.args.scan.now.tables.now.block c.args.scan.now.tables.now.level
    c.args.scan.now.part c.args.pair c.args.first c.args.second c.args.scan.now.cem _
    c.requires.scan.mode_is (rw c.requires.scan.mode_is c.requires.pair) c.requires.scan.values_are
    in
    let exchange : e + c.args.scan.now.floor.taken ≡ c.args.scan.now.tables.now.total + n =
    pair_result g.row.W g.row.H c.args.scan.now.tables.now c.requires.scan.kept c.args.scan.now.part
    c.args.pair c.requires.scan.own c.requires.pair
    c.args.first c.args.second c.requires.first c.requires.second c.args.scan.now.reach.now
    c.pair_ends-ends.result _ _ c.requires.scan.reached ends
    c.requires.scan.floored.taken refl
    in
    c.ends_tried.ensures.exact c.args.scan.now.tables.now.total e (omega arith) exchange
