use Rattle.std.proofs.Common.{◌≡◌, suc, get_or}
use Rattle.astc_model.specs.PairChanges.{pair_place, IsPairChange}
use Rattle.astc_model.specs.declared.block.Coded.{Coded as CodedFields}
use Rattle.texel_error.specs.Shaped.{IsShaped}
use Rattle.error_tables.specs.Changed.{with_colour}
use Rattle.error_tables.specs.Kept.{IsKept}
use Rattle.error_state.specs.Pairs.{change_of}
use Rattle.error_tables.proofs.ChangedLaws.{colour_range-is}
use Rattle.error_tables.proofs.PairTrial.{shaped_pair, both_set, pair_within}
use Rattle.error_state.proofs.state.ErrorState.block_with.Goals as goal

pub returns-clause-legal : goal.returns-clause-legal
returns-clause-legal g c =
    let kept : IsKept g.row.W g.row.H c.self.inside.tables = c.self.invariant.0 in
    let block : CodedFields = c.self.inside.tables.block in
    let within : IsPairChange block (change_of c.args.better.now) =
    rw (← c.self.view_is) at c.requires.within in
    let same : c.with_colour.result
    ≡ with_colour (with_colour block
    (pair_place block c.args.better.now.part c.args.better.now.pair)
    c.args.better.now.first)
    (suc (pair_place block c.args.better.now.part c.args.better.now.pair))
    c.args.better.now.second =
    both_set block c.with_colour-changed.result c.with_colour.result c.first_place-place.result _
    c.args.better.now.first c.args.better.now.second
    c.first_place-place.ensures.exact c.with_colour-changed.ensures c.with_colour.ensures
    in
    let is : IsShaped g.row.W g.row.H c.with_colour.result c.self.inside.tables.mode
    c.self.inside.tables.level =
    rw same
    (shaped_pair g.row.W g.row.H c.self.inside.tables kept c.args.better.now.part
    c.args.better.now.pair within.part
    (pair_within (get_or block.cems c.args.better.now.part 0) c.args.better.now.pair within.pair)
    c.args.better.now.first c.args.better.now.second
    (rw (colour_range-is g.row.W g.row.H _ _ _ kept.is_shaped) at within.first)
    (rw (colour_range-is g.row.W g.row.H _ _ _ kept.is_shaped) at within.second))
    in
    (c.self.inside.tables.mode, c.self.inside.tables.level, is.legal)
