use Rattle.std.proofs.Common.{◌+◌, ◌≤◌, ℕ, List, set, sym, ◌∙◌}
use Rattle.std.specs.Prelude.{IsTrue}
use Rattle.error_tables.specs.ChannelForms.{one_more, one_less}
use Rattle.colour_bounds.specs.OneChannel.{moves_one, moved_ends}
use Rattle.colour_bounds.proofs.one_channel.is_far_with.Goals as goal

pub returns : goal.returns
returns g c = λ reached.
    let mode : ℕ = c.args.scan.now.cem in
    let values : List ℕ = set c.args.scan.now.values c.args.place c.args.value in
    let pair : ℕ × ℕ = moved_ends c.args.trend mode values c.args.place in
    let on : IsTrue (moves_one c.args.trend mode values c.args.place) =
    rw (c.from.ensures, c.mode_as-cem.ensures)
    at (sym c.moves_one.ensures ∙ c.if-not-moves_one.false) in
    let far : one_less c.args.others.now pair.0 pair.1 + c.args.most ≤ one_more c.args.others.now
    pair.0 pair.1 =
    rw (c.moved_ends-first.ensures, c.from.ensures, c.mode_as-cem.ensures)
    at (c.reaches.ensures.0 reached) in
    rw (c.requires.others.less_is c.args.value on, c.requires.others.more_is c.args.value on) far
